use Rattle.yaml_scalar.proofs.Common.{chars, IsUtf8, length, chars_rest, written_as, limit_where}
use Rattle.yaml_scalar.proofs.LinesWritten.{LinesLeft}
use Rattle.yaml_scalar.proofs.lines.write_from.Given as goal

abbrev pub invariant-loop-character : goal.invariant-loop-character
invariant-loop-character g l =
    record {
      is_text : IsUtf8 (chars_rest l.characters);
      still : LinesLeft (written_as l.lines.quoted) (limit_where l.lines.allow_breaks l.lines.width) l.lines.indent
          l.fn.start (chars l.fn.value) (chars (chars_rest l.characters)) l.before l.initial.pen l.pen;
    }

abbrev pub decreases-loop-character : goal.decreases-loop-character
decreases-loop-character g l = length (chars_rest l.characters)
