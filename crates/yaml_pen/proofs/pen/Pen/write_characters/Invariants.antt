use Rattle.yaml_pen.proofs.Common.{length, Ok, false, ◌≡◌, list_any, chars, chars_rest, is_break, render_nothing, render_text, Wrote}
use Rattle.std.specs.Str.{IsUtf8}
use Rattle.yaml_pen.proofs.StillToWrite.{StillToWrite}
use Rattle.yaml_pen.proofs.pen.Pen.write_characters.Given as goal

abbrev pub invariant-loop-character : goal.invariant-loop-character
invariant-loop-character g l = record {
  still : StillToWrite (render_text (chars (chars_rest l.characters))) (render_text (chars l.fn.text)) l.initial.self l.self;
  unfailed : Wrote render_nothing l.self l.self (Ok tt);
  is_text : IsUtf8 (chars_rest l.characters);
  no_break : list_any is_break (chars (chars_rest l.characters)) ≡ false;
}

abbrev pub decreases-loop-character : goal.decreases-loop-character
decreases-loop-character g l = length (chars_rest l.characters)
