-- Integers are numbers of JSON, so both schemas read them as themselves.
use Rattle.yaml_toml.proofs.Common.{ℕ, ◌<◌, codes, Bool, false, not, true, ◌&&◌, [], ◌++◌, ◌∷◌, ◌≡◌, arith, ap, sym, ◌∙◌, subst, append-nil, Text, Schema}
use Rattle.yaml_toml.proofs.Common.{if◌then◌else◌, fraction_or_default, is_json_integer, digits_value, signed_decimal, ℤ, pos, suc, ◌^◌}
use Rattle.yaml_base.{proofs.Common.meant_integer, proofs.Common.meant_decimal, proofs.Common.signed, specs.values.JsonNumbers.value_with, specs.Words.is_word}
use Rattle.yaml_toml.specs.Walk.{FewDigits}
use Rattle.yaml_writer.proofs.NumberTexts.{first_digit, integer, valid_integer}
use Rattle.yaml_writer.proofs.ScalarMeanings.{IsPlainWord, ReadsScalars, plain_numbers}
use Rattle.std.specs.{Fmt.decimal, Prelude.negsuc}
use Rattle.std.proofs.{Common.FitsSigned, Common.get_or, Common.w64, lemmas.Fmt.decimal_is_IsNumeral_wide, lemmas.Bool.ne_eqb}

-- no integer but 0 is written `0`
not_zero : (n : ℕ) → suc n < 10 ^ 64 → is_word (decimal (suc n)) (codes "0") ≡ false
not_zero n h = by (decimal (suc n)) (first_digit (suc n) h (omega arith))
  where
    by : (digits : Text) → 48 < get_or digits 0 0 → is_word digits (codes "0") ≡ false
    by [] some = absurd (omega arith)
    by (d ∷ digits) some = ap (λ x. x && is_word digits []) (ne_eqb d 48 (λ e. omega (arith, e, some)))

no_more : (text : Text) → text ++ [] ≡ text
no_more text = append-nil text

module _ (schema : Schema) (reads : ReadsScalars schema) where
  read_pos : (n : ℕ) → n < 10 ^ 64 → schema (decimal n) ≡ meant_integer (pos n)
  read_pos n h =
      ap schema (sym (no_more (decimal n))) ∙ reads.numbers (integer false (decimal n)) (valid_integer false n h)
      ∙ ap (λ m. meant_integer (pos m)) (decimal_is_IsNumeral_wide n h).1

  read_neg : (n : ℕ) → suc n < 10 ^ 64 → schema (45 ∷ decimal (suc n)) ≡ meant_integer (negsuc n)
  read_neg n h =
      let parts = integer true (decimal (suc n)) in
      let whole : is_json_integer parts ≡ true = ap not (not_zero n h) in
      ap schema
      (sym (ap (λ (x : Bool). 45 ∷ (decimal (suc n) ++ (if x then [] else codes ".0"))) whole ∙ ap (λ (t : Text). 45 ∷ t) (no_more (decimal (suc n)))))
      ∙ reads.numbers parts (valid_integer true (suc n) h)
      ∙ ap (λ (x : Bool). if x then meant_integer (signed true (digits_value 10 (decimal (suc n)))) else meant_decimal
      (value_with parts (fraction_or_default (codes "0") parts))) whole
      ∙ ap (λ m. meant_integer (signed true m)) (decimal_is_IsNumeral_wide (suc n) h).1

  pub integer_read : (z : ℤ) → FewDigits z → schema (signed_decimal z) ≡ meant_integer z
  integer_read (pos n) h = read_pos n (omega (arith, h))
  integer_read (negsuc n) h = read_neg n (omega (arith, h))

pub integer_plain : (z : ℤ) → FewDigits z → IsPlainWord (signed_decimal z)
integer_plain (pos n) h = subst IsPlainWord (no_more (decimal n)) (plain_numbers (integer false (decimal n)) (valid_integer false n (omega (arith, h))))
integer_plain (negsuc n) h =
    subst IsPlainWord (ap (λ (x : Bool). 45 ∷ (decimal (suc n) ++ (if x then [] else codes ".0"))) (ap not (not_zero n (omega (arith, h))))
    ∙ ap (λ (t : Text). 45 ∷ t) (no_more (decimal (suc n)))) (plain_numbers (integer true (decimal (suc n))) (valid_integer true (suc n) (omega (arith, h))))

-- an integer of 64 bits
pub few_digits : (z : ℤ) → FitsSigned w64 z → FewDigits z
few_digits (pos n) fits = omega (arith, fits)
few_digits (negsuc n) fits = omega (arith, fits)
