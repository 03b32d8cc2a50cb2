use Rattle.yaml_writer.proofs.Common.{take, true, ◌≡◌, is_decimal, list_all, list_any}
use Rattle.yaml_base.specs.values.SurelyText.{in_number, is_number_letter}
use Rattle.yaml_writer.proofs.texts.are_of_number.Given as goal

abbrev pub invariant-loop-byte : goal.invariant-loop-byte
invariant-loop-byte l =
    let before = take l.byte-index l.text in
    (list_all in_number before ≡ true) × (l.has_digit ≡ list_any is_decimal before) × (l.has_letter ≡ list_any is_number_letter before)
