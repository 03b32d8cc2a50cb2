use Rattle.std.proofs.Common.{slice_index_or}
use Rattle.yaml_writer.proofs.Common.{◌≡◌, rules, ◌&&◌, ◌||◌, ap₂, sym, ◌∙◌, is_decimal}
use Rattle.std.proofs.lemmas.List.Folds.{list_all_more, list_any_more}
use Rattle.yaml_base.specs.values.SurelyText.{in_number, is_number_letter}
use Rattle.yaml_writer.proofs.texts.are_of_number.Goals as goal

pub loop-byte-preserved : goal.loop-byte-preserved
loop-byte-preserved c =
    let text = c.args.text.now in
    let at = c.loop-byte.byte-index in
    let inside = c.loop-byte-test.true in
    let before = c.loop-byte.invariant in
    let digit : c.is_ascii_digit-has_digit.result ≡ is_decimal (slice_index_or text at 0) = search rules in (
      list_all_more in_number text at 0 inside ∙ ap₂ ◌&&◌ before.0 (sym c.in_number.ensures ∙ c.if-not-in_number.false),
      ap₂ ◌||◌ before.1 digit ∙ sym (list_any_more is_decimal text at 0 inside),
      ap₂ ◌||◌ before.2 c.is_number_letter-has_letter.ensures ∙ sym (list_any_more is_number_letter text at 0 inside),
    )
