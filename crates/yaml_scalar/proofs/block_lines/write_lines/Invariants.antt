use Rattle.yaml_scalar.proofs.Common.{length, chars_rest, natural, is_folded, limit_of}
use Rattle.std.specs.Str.{IsUtf8, chars}
use Rattle.yaml_scalar.proofs.blocks.BlockWrites.{LinesLeft}
use Rattle.yaml_scalar.proofs.block_lines.write_lines.Given as goal

abbrev pub invariant-loop-character : goal.invariant-loop-character
invariant-loop-character g l =
    let lines = l.fn.lines in
    LinesLeft (is_folded lines.style) (limit_of lines.width) (natural lines.indent) (chars l.fn.value) (chars (chars_rest l.characters)) l.place l.fn.pen l.pen
    × IsUtf8 (chars_rest l.characters)

abbrev pub decreases-loop-character : goal.decreases-loop-character
decreases-loop-character g l = length (chars_rest l.characters)
