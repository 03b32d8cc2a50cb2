use Rattle.yaml_writer.proofs.Common.{length, ◌++◌, ◌≡◌, chars, encode_utf8_all, string_bytes}
use Rattle.std.specs.{Str.IsUtf8, Str.Iter.chars_rest}
use Rattle.yaml_writer.specs.Headings.{comment_lines, commented}
use Rattle.yaml_writer.proofs.headings.comment_lines.Given as goal

abbrev pub invariant-loop-character : goal.invariant-loop-character
invariant-loop-character g l =
    (string_bytes l.lines ++ encode_utf8_all (commented l.spot (chars (chars_rest l.characters))) ≡ encode_utf8_all (comment_lines (chars l.fn.text)))
    × IsUtf8 (chars_rest l.characters)

abbrev pub decreases-loop-character : goal.decreases-loop-character
decreases-loop-character g l = length (chars_rest l.characters)
