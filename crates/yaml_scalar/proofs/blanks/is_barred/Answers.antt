use Rattle.yaml_scalar.proofs.Common.{ℕ, List, Bool, ◌||◌, ap, sym, ◌∙◌, nil_from_length, chars-nil, IsUtf8-past_char, chars_past_char, chars_rest}
use Rattle.yaml_scalar.proofs.Common.{somewhere, bars_literal}
use Rattle.yaml_base.proofs.Common.{chars}
use Rattle.yaml_scalar.proofs.blanks.is_barred.Goals as goal

pub returns-then-bars_literal : goal.returns-then-bars_literal
returns-then-bars_literal c =
    let test = bars_literal c.args.charset in
    let rest = chars (chars_rest c.next.new.self) in
    sym (c.loop-c.invariant.same
    ∙ ap (somewhere test) (chars_past_char _ (chars_rest c.next.new.self) c.in-Some.c c.loop-c.invariant.is_text c.in-Some.ensures.steps.0)
    ∙ ap (λ (l : List ℕ). test c.in-Some.c (chars l) || somewhere test rest) (sym c.as_str.ensures)
    ∙ ap (λ (b : Bool). b || somewhere test rest) (sym c.if-bars_literal.ensures))

pub loop-c-preserved : goal.loop-c-preserved
loop-c-preserved c =
    let test = bars_literal c.args.charset in
    let rest = chars (chars_rest c.next.new.self) in
    record {
      is_text = IsUtf8-past_char _ _ c.in-Some.c c.loop-c.invariant.is_text c.in-Some.ensures.steps.0;
      same = c.loop-c.invariant.same
          ∙ ap (somewhere test) (chars_past_char _ (chars_rest c.next.new.self) c.in-Some.c c.loop-c.invariant.is_text c.in-Some.ensures.steps.0)
          ∙ ap (λ (l : List ℕ). test c.in-Some.c (chars l) || somewhere test rest) (sym c.as_str.ensures)
          ∙ ap (λ (b : Bool). b || somewhere test rest) (sym c.if-bars_literal.ensures);
    }

pub returns : goal.returns
returns c =
    let test = bars_literal c.args.charset in
    sym (c.loop-c.invariant.same ∙ ap (somewhere test) (ap chars (nil_from_length _ c.in_default.ensures.steps.0.0) ∙ chars-nil))
