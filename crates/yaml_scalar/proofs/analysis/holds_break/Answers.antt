use Rattle.yaml_scalar.proofs.Common.{ℕ, IsUtf8, ◌||◌, List, ap, subst, sym, ◌∙◌, nil_from_length, chars-nil, chars_past_char, list_any, is_break}
use Rattle.yaml_base.proofs.Common.{chars}
use Rattle.yaml_scalar.proofs.{CleanBytes.clean_unbroken, Shorter.shorter_left}
use Rattle.yaml_scalar.proofs.analysis.holds_break.Goals as goal

pub returns-then-is_clean_ascii : goal.returns-then-is_clean_ascii
returns-then-is_clean_ascii c = sym (clean_unbroken c.utf8.text (c.is_clean_ascii.ensures c.if-is_clean_ascii.true))

pub loop-c-preserved : goal.loop-c-preserved
loop-c-preserved c =
    let so_far = c.loop-c.invariant in
    record {
      is_text = subst IsUtf8 (sym c.chars-chars-in-Some.ensures.rest) c.skip_unbroken-in-Some.utf8;
      same = so_far.same
          ∙ ap (list_any is_break) (chars_past_char _ _ c.in-Some.c so_far.is_text c.in-Some.ensures.steps.0)
          ∙ ap (λ b. b || list_any is_break (chars c.next.new.self.rest.now)) (sym c.if-is_break.ensures)
          ∙ ap (λ (l : List ℕ). list_any is_break (chars l)) (sym c.as_str.ensures)
          ∙ c.skip_unbroken-in-Some.ensures.same
          ∙ ap (λ (l : List ℕ). list_any is_break (chars l)) (sym c.chars-chars-in-Some.ensures.rest);
    }

pub returns-then-is_break : goal.returns-then-is_break
returns-then-is_break c =
    sym (c.loop-c.invariant.same
    ∙ ap (list_any is_break) (chars_past_char _ _ c.in-Some.c c.loop-c.invariant.is_text c.in-Some.ensures.steps.0)
    ∙ ap (λ b. b || list_any is_break (chars c.next.new.self.rest.now)) (sym c.if-is_break.ensures))

pub returns : goal.returns
returns c = sym (c.loop-c.invariant.same ∙ ap (list_any is_break) (ap chars (nil_from_length _ c.in_default.ensures.steps.0.0) ∙ chars-nil))

pub loop-c-smaller : goal.loop-c-smaller
loop-c-smaller c =
    shorter_left _ _ _ _ _ c.in-Some.c c.in-Some.ensures.steps.0 c.as_str.ensures c.skip_unbroken-in-Some.ensures.shorter c.chars-chars-in-Some.ensures.rest
