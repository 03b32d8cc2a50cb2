use Rattle.yaml_pen.proofs.Common.{[], ◌∷◌, ap, sym, ◌∙◌, or_parts, list_any, chars, chars_rest, is_break, render_text}
use Rattle.std.proofs.lemmas.Str.{IsUtf8-past_char, chars_past_char}
use Rattle.yaml_pen.{proofs.Composing.wrote_exit, proofs.Writing.line_feed-break}
use Rattle.yaml_pen.proofs.StillToWrite.{still_rest, still_failed, still_part, end_still, unfailed_after}
use Rattle.yaml_pen.proofs.pen.Pen.write_characters.Goals as goal

pub write_character-requires-clause-not_line_feed : goal.write_character-requires-clause-not_line_feed
write_character-requires-clause-not_line_feed g c =
    let step = chars_past_char _ (chars_rest c.next.new.self) c.in-Some.character c.loop-character.invariant.is_text c.in-Some.ensures.steps.0 in
    line_feed-break c.in-Some.character (or_parts _ _ (sym (ap (list_any is_break) step) ∙ c.loop-character.invariant.no_break)).0

pub loop-character-preserved : goal.loop-character-preserved
loop-character-preserved g c =
    let step = chars_past_char _ (chars_rest c.next.new.self) c.in-Some.character c.loop-character.invariant.is_text c.in-Some.ensures.steps.0 in
    record {
      still = still_rest (still_part (c.in-Some.character ∷ []) _ step c.loop-character.invariant.still) c.in_ok-write_character.ensures.written;
      unfailed = unfailed_after c.in_ok-write_character.ensures.written;
      is_text = IsUtf8-past_char _ _ c.in-Some.character c.loop-character.invariant.is_text c.in-Some.ensures.steps.0;
      no_break = (or_parts _ _ (sym (ap (list_any is_break) step) ∙ c.loop-character.invariant.no_break)).1;
    }

pub returns-in_err-write_character : goal.returns-in_err-write_character
returns-in_err-write_character g c = record {
  written =
      let step = chars_past_char _ (chars_rest c.next.new.self) c.in-Some.character c.loop-character.invariant.is_text c.in-Some.ensures.steps.0 in
      wrote_exit c.from_residual-in_err-write_character.ensures
      (still_failed (render_text (chars (chars_rest c.next.new.self))) (still_part (c.in-Some.character ∷ []) _ step c.loop-character.invariant.still)
      c.in_err-write_character.ensures.written);
}

pub returns : goal.returns
returns g c = record {
  written = (end_still render_text _ c.in_default.ensures.steps.0.0 c.loop-character.invariant.still).writes _ _ c.loop-character.invariant.unfailed;
}
