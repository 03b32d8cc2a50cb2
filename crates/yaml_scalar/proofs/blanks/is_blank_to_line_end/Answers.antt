use Rattle.yaml_scalar.proofs.Common.{Bool, ◌||◌, ◌&&◌, ap, sym, ◌∙◌, nil_from_length, chars-nil, IsUtf8-past_char, chars_past_char, chars_rest, is_blank}
use Rattle.yaml_scalar.proofs.Common.{is_blank_to_line_end}
use Rattle.yaml_base.proofs.Common.{chars}
use Rattle.yaml_scalar.proofs.blanks.is_blank_to_line_end.Goals as goal

pub returns-then-is_break : goal.returns-then-is_break
returns-then-is_break c =
    let rest = chars (chars_rest c.next.new.self) in
    sym (c.loop-c.invariant.same
    ∙ ap is_blank_to_line_end (chars_past_char _ (chars_rest c.next.new.self) c.in-Some.c c.loop-c.invariant.is_text c.in-Some.ensures.steps.0)
    ∙ ap (λ (b : Bool). b || (is_blank c.in-Some.c && is_blank_to_line_end rest)) (sym c.if-is_break.ensures))

pub returns-then-not-is_blank : goal.returns-then-not-is_blank
returns-then-not-is_blank c =
    let rest = chars (chars_rest c.next.new.self) in
    sym (c.loop-c.invariant.same
    ∙ ap is_blank_to_line_end (chars_past_char _ (chars_rest c.next.new.self) c.in-Some.c c.loop-c.invariant.is_text c.in-Some.ensures.steps.0)
    ∙ ap (λ (b : Bool). b || (is_blank c.in-Some.c && is_blank_to_line_end rest)) (sym c.if-is_break.ensures)
    ∙ ap (λ (b : Bool). b && is_blank_to_line_end rest) (sym c.if-not-is_blank.ensures))

pub loop-c-preserved : goal.loop-c-preserved
loop-c-preserved c =
    let rest = chars (chars_rest c.next.new.self) in
    record {
      is_text = IsUtf8-past_char _ _ c.in-Some.c c.loop-c.invariant.is_text c.in-Some.ensures.steps.0;
      same = c.loop-c.invariant.same
          ∙ ap is_blank_to_line_end (chars_past_char _ (chars_rest c.next.new.self) c.in-Some.c c.loop-c.invariant.is_text c.in-Some.ensures.steps.0)
          ∙ ap (λ (b : Bool). b || (is_blank c.in-Some.c && is_blank_to_line_end rest)) (sym c.if-is_break.ensures)
          ∙ ap (λ (b : Bool). b && is_blank_to_line_end rest) (sym c.if-not-is_blank.ensures);
    }

pub returns : goal.returns
returns c = sym (c.loop-c.invariant.same ∙ ap is_blank_to_line_end (ap chars (nil_from_length _ c.in_default.ensures.steps.0.0) ∙ chars-nil))
