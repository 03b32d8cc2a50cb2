use Rattle.yaml_scalar.proofs.Common.{length, ◌≡◌, chars_rest, next_line_unindented, parts}
use Rattle.std.specs.Str.{IsUtf8, chars}
use Rattle.yaml_scalar.proofs.block_lines.next_line_unindented.Given as goal

abbrev pub invariant-loop-character : goal.invariant-loop-character
invariant-loop-character l =
    (next_line_unindented (parts (chars (chars_rest l.characters))) ≡ next_line_unindented (parts (chars l.fn.rest))) × IsUtf8 (chars_rest l.characters)

abbrev pub decreases-loop-character : goal.decreases-loop-character
decreases-loop-character l = length (chars_rest l.characters)
