use Rattle.yaml_mark.proofs.Common.{length, Ok, chars, render_text, suffix_escaped, are_escaped, Wrote}
use Rattle.std.specs.Str.{IsUtf8}
use Rattle.yaml_base.specs.Cursor.{render_nothing}
use Rattle.yaml_pen.proofs.StillToWrite.{StillToWrite}
use Rattle.yaml_mark.proofs.writing.write_escaped.Given as goal

abbrev pub invariant-loop-rest : goal.invariant-loop-rest
invariant-loop-rest g l = record {
  still : StillToWrite (render_text (suffix_escaped (are_escaped l.indicators) (chars l.rest)))
      (render_text (suffix_escaped (are_escaped l.indicators) (chars l.fn.text))) l.initial.pen l.pen;
  unfailed : Wrote render_nothing l.pen l.pen (Ok tt);
  is_text : IsUtf8 l.rest;
}

abbrev pub decreases-loop-rest : goal.decreases-loop-rest
decreases-loop-rest g l = length l.rest
