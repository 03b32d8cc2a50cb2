use Rattle.yaml_pen.proofs.Common.{length, false, ◌≡◌, list_any, chars, is_break, render_text, has_bom}
use Rattle.std.specs.Str.{IsUtf8}
use Rattle.yaml_pen.proofs.StillToWrite.{StillToWrite}
use Rattle.yaml_pen.proofs.pen.Pen.write_pieces.Given as goal

abbrev pub invariant-loop-rest : goal.invariant-loop-rest
invariant-loop-rest g l = record {
  still : StillToWrite (render_text (chars l.rest)) (render_text (chars l.fn.text)) l.initial.self l.self;
  is_text : IsUtf8 l.rest;
  no_break : list_any is_break (chars l.rest) ≡ false;
  no_bom : has_bom l.self.encoding ≡ false;
}

abbrev pub decreases-loop-rest : goal.decreases-loop-rest
decreases-loop-rest g l = length l.rest
