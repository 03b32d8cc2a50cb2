use Rattle.std.proofs.Common.{List, ℕ, ap, sym, subst, ◌∙◌, ◌≡◌, IfSome, Option}
use Rattle.yaml_program.{specs.Messages.IsDifferenceLine, specs.Messages.difference_words, specs.Messages.message_line, proofs.Parts.tells}
use Rattle.yaml_program.proofs.checking.tell_difference.Goals as goal

-- The text of a part, as a string, is what the part shows.
shows : (known : Option (List ℕ)) (part text : List ℕ) → text ≡ part → IfSome known (λ shown. part ≡ shown) → IfSome known (λ shown. text ≡ shown)
shows known part text same = subst (λ (t : List ℕ). IfSome known (λ shown. t ≡ shown)) (sym same)

pub returns-clause-told : goal.returns-clause-told
returns-clause-told g c =
    let program = c.args.faults.now.words.now.name.now in
    tells _ _ _ c.line_part-new.new.loss _ (IsDifferenceLine program c.args.name.now c.args.there.now c.args.yaml.now)
    (λ kept. c.part-shown.ensures.kept (c.part-number.ensures.kept (c.line_part-old.ensures.kept (c.line_part-new.ensures.kept kept)))) (λ kept.
    let old_kept = c.line_part-new.ensures.kept kept in
    let number_kept = c.line_part-old.ensures.kept old_kept in
    record {
      number = c.first_difference-difference.result.number;
      old_line = c.first_difference-difference.result.old.now;
      new_line = c.first_difference-difference.result.new.now;
      first = c.first_difference-difference.ensures;
      shown = c.as_str.result.now;
      old_shown = c.as_str-3.result.now;
      new_shown = c.as_str-4.result.now;
      named = shows _ _ _ c.as_str.ensures.value
          (c.part-shown.ensures.shown (c.part-number.ensures.kept number_kept));
      old_is = shows _ _ _ c.as_str-3.ensures.value
          (c.line_part-old.ensures.shown old_kept);
      new_is = shows _ _ _ c.as_str-4.ensures.value
          (c.line_part-new.ensures.shown kept);
      whole = c.difference_line.ensures
          ∙ ap (λ (number : List ℕ). message_line program (difference_words c.as_str.result.now number c.as_str-3.result.now c.as_str-4.result.now))
          (c.as_str-2.ensures.value ∙ c.part-number.ensures.shown number_kept);
    }) c.tell.ensures
