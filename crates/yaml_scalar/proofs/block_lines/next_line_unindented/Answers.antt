use Rattle.yaml_scalar.proofs.Common.{not, ap, sym, ◌∙◌, nil_from_length, chars-nil, IsUtf8-past_char, chars_past_char, chars_rest, Text}
use Rattle.yaml_scalar.proofs.Common.{next_line_unindented, parts}
use Rattle.yaml_base.proofs.Common.{chars}
use Rattle.yaml_scalar.proofs.blocks.NextEven.{even-line, even-break}
use Rattle.yaml_scalar.proofs.block_lines.next_line_unindented.Goals as goal

pub returns-then-not-is_break : goal.returns-then-not-is_break
returns-then-not-is_break c =
    let step = chars_past_char _ (chars_rest c.next.new.self) c.in-Some.character c.loop-character.invariant.1 c.in-Some.ensures.steps.0 in
    ap not c.is_space.ensures
    ∙ sym (even-line c.in-Some.character (chars (chars_rest c.next.new.self)) (sym c.if-not-is_break.ensures))
    ∙ ap (λ (t : Text). next_line_unindented (parts t)) (sym step) ∙ c.loop-character.invariant.0

pub loop-character-preserved : goal.loop-character-preserved
loop-character-preserved c =
    let step = chars_past_char _ (chars_rest c.next.new.self) c.in-Some.character c.loop-character.invariant.1 c.in-Some.ensures.steps.0 in (
      sym (even-break c.in-Some.character (chars (chars_rest c.next.new.self)) (sym c.if-not-is_break.ensures))
          ∙ ap (λ (t : Text). next_line_unindented (parts t)) (sym step) ∙ c.loop-character.invariant.0,
      IsUtf8-past_char _ _ c.in-Some.character c.loop-character.invariant.1 c.in-Some.ensures.steps.0,
    )

pub returns : goal.returns
returns c =
    ap (λ (t : Text). next_line_unindented (parts t)) (sym (ap chars (nil_from_length _ c.in_default.ensures.steps.0.0) ∙ chars-nil))
    ∙ c.loop-character.invariant.0
