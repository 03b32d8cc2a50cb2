use Rattle.std.proofs.Common.{Bor, List, ℕ, option_map, ◌∙◌, sym}
use Rattle.std.specs.Fmt.InlineText.{inline_text}
use Rattle.yaml_program.specs.Messages.{IsFailureLine, operation_text, place_text, position_of}
use Rattle.yaml_program.proofs.Parts.{placed_line, tells, words_line}
use Rattle.yaml_program.proofs.faults.write_failure.Goals as goal

pub returns-in-Some : goal.returns-in-Some
returns-in-Some g c =
    let program = c.args.faults.now.words.now.name.now in
    let place = inline_text c.part-name.result in
    let reason = inline_text c.part-reason.result in
    tells _ _ _ c.part-numbers.new.self _ (IsFailureLine program c.args.error.now (option_map (λ (name : Bor (List ℕ)). name.now) c.args.name))
    (λ kept. c.part-name.ensures.kept (c.part-reason.ensures.kept (c.part-numbers.ensures.kept kept)))
    (λ kept. record {
      shown = place_text c.place_of.result;
      is_place = c.place_of.ensures;
      place = place;
      placed = c.part-name.ensures.shown (c.part-reason.ensures.kept (c.part-numbers.ensures.kept kept));
      reason = reason;
      reasoned = c.part-reason.ensures.shown (c.part-numbers.ensures.kept kept);
      whole = placed_line program (operation_text c.args.error.now) place reason (position_of c.args.error.now) c.as_str.result.now
          c.as_str-in-Some.result.now c.as_str-in-Some-2.result.now c.in-Some.field-0 (sym c.in-Some.ensures) c.as_str.ensures.value
          (c.as_str-in-Some.ensures.value ∙ c.part-numbers.ensures.shown kept) c.as_str-in-Some-2.ensures.value;
    }) c.tell.ensures

pub returns-in_default : goal.returns-in_default
returns-in_default g c =
    let program = c.args.faults.now.words.now.name.now in
    let place = inline_text c.part-name.result in
    let reason = inline_text c.part-reason.result in
    tells _ _ _ c.part-reason.new.self _ (IsFailureLine program c.args.error.now (option_map (λ (name : Bor (List ℕ)). name.now) c.args.name))
    (λ kept. c.part-name.ensures.kept (c.part-reason.ensures.kept kept))
    (λ kept. record {
      shown = place_text c.place_of.result;
      is_place = c.place_of.ensures;
      place = place;
      placed = c.part-name.ensures.shown (c.part-reason.ensures.kept kept);
      reason = reason;
      reasoned = c.part-reason.ensures.shown kept;
      whole = words_line program (operation_text c.args.error.now) place reason (position_of c.args.error.now) c.operation_of-operation.result.now
          c.as_str-in_default.result.now c.as_str-in_default-2.result.now _ (sym c.in_default.ensures) c.operation_of-operation.ensures
          c.as_str-in_default.ensures.value c.as_str-in_default-2.ensures.value c.line_of.ensures;
    }) c.tell-in_default.ensures
