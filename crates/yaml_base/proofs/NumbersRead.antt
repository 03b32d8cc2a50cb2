-- Both schemas read the spelling of a number of JSON as that number.
use Rattle.yaml_base.proofs.Common.{arith, nat_tests, ℕ, if◌then◌else◌, ◌==◌, Option, None, Some, codes, length, Bool, false, not, true, ◌&&◌, [], ◌++◌, ◌∷◌}
use Rattle.yaml_base.proofs.Common.{refl, ◌≡◌, true≢false, append-nil, append_assoc, ap, sym, ◌∙◌, and_parts, and_from, and_left, and_right, or_left, or_right}
use Rattle.yaml_base.proofs.Common.{not_from_false, not-true, bytes_eq-Decides, list_all, digits_value, Text, JsonExponent, JsonNumber, is_json_number, minus}
use Rattle.yaml_base.proofs.Common.{json_value, yaml_number, number_meant, means_number, Resolved, meant_integer, first_reading, is_decimal, first_meets}
use Rattle.yaml_base.proofs.Common.{is_negative, signed, are_digits, decimal_of_digits, resolved_by_core, ungrouped, based_11, octal_11, decimal_11}
use Rattle.yaml_base.proofs.NumberCuts.{digits_grouped, digits_ungrouped, no_point, no_exponent, at_point, HasDigits, past_minus, minus_read, no_word_of_11}
use Rattle.yaml_base.proofs.NumbersByCore.{passed, found, given, decimal_of, pointed_read, exponent_sign, exponent_read_signed, scientific_read}
use Rattle.yaml_base.proofs.{JsonSpelling.spelling_keeps_value, NumberCuts.no_timestamp}
use Rattle.yaml_base.proofs.Common.{mantissa_11, exponent_11, float_11, in_date, numbers_11, resolved_by_11}
use Rattle.yaml_base.proofs.NumbersByCore.{integer_by_core, after_whole, no_letter, cut_read, scientific_of, decimal_by_core}
use Rattle.yaml_base.specs.values.JsonNumbers.{is_whole_part, fraction_or_default, is_json_integer, NumbersAreRead}

-- The type repository of YAML 1.1

exponent_11_signed : (negative : Bool) (digits : Text) → are_digits 10 digits ≡ true
    → exponent_11 (exponent_sign negative ++ digits) ≡ Some (signed negative (digits_value 10 digits))
exponent_11_signed true digits h = exponent_read_signed true digits h
exponent_11_signed false digits h = exponent_read_signed false digits h

-- an integer has no point
pub float_11_none : (negative : Bool) (c : ℕ) (digits : Text) → list_all is_decimal (c ∷ digits) ≡ true → float_11 negative (c ∷ digits) ≡ None
float_11_none negative c digits h = grind (arith, nat_tests, no_exponent, no_point)

pub based_11_none : (negative : Bool) (letter base : ℕ) (c : ℕ) (rest : Text) → first_meets (λ d. d == letter) rest ≡ false
    → based_11 negative letter base (c ∷ rest) ≡ None
based_11_none negative letter base c rest h = grind (arith, nat_tests, and_left, and_right)

-- digits of which the first isn't 0 are no octal number
pub octal_11_none : (negative : Bool) (c : ℕ) (digits : Text) → (c == 0x30) ≡ false → octal_11 negative (c ∷ digits) ≡ None
octal_11_none negative c digits h = grind (arith, nat_tests, and_left)

-- a whole part: `0`, or its first digit isn't 0
pub data Whole (c : ℕ) (digits : Text) : Type 0 where
  zero_alone : (c ∷ digits) ≡ codes "0" → Whole c digits
  leading : (c == 0x30) ≡ false → Whole c digits

pub whole_11 : (c : ℕ) (digits : Text) → is_whole_part (c ∷ digits) ≡ true → Whole c digits
whole_11 c digits h = grind (arith, and_parts, bytes_eq-Decides, not-true)

whole_no_octal : (negative : Bool) (c : ℕ) (digits : Text) → Whole c digits → octal_11 negative (c ∷ digits) ≡ None
whole_no_octal negative c digits (zero_alone e) = ap (octal_11 negative) e
whole_no_octal negative c digits (leading e) = octal_11_none negative c digits e

decimal_11_read : (negative : Bool) (c : ℕ) (digits : Text) → list_all is_decimal (c ∷ digits) ≡ true → Whole c digits
    → decimal_11 negative (c ∷ digits) ≡ Some (meant_integer (signed negative (digits_value 10 (c ∷ digits))))
decimal_11_read negative c digits h whole =
    grind (arith, nat_tests, digits_ungrouped, given, or_left, bytes_eq-Decides, or_right, and_from, and_parts, not_from_false, digits_grouped)

pub integer_without_sign : (negative : Bool) (c : ℕ) (digits : Text) → list_all is_decimal (c ∷ digits) ≡ true → Whole c digits
    → first_reading (numbers_11 negative (c ∷ digits)) ≡ meant_integer (signed negative (digits_value 10 (c ∷ digits)))
integer_without_sign negative c digits h whole =
    grind (arith, passed, float_11_none, based_11_none, whole_no_octal, found, decimal_11_read, append-nil, no_letter, and_parts)

-- a number's reading by 1.1 is that of the text after its sign
past_sign_11 : (negative : Bool) (c : ℕ) (whole rest : Text) (meant : Resolved) → list_all is_decimal (c ∷ whole) ≡ true → first_meets in_date rest ≡ false
    → first_reading (numbers_11 negative ((c ∷ whole) ++ rest)) ≡ meant → resolved_by_11 (minus negative ++ ((c ∷ whole) ++ rest)) ≡ meant
past_sign_11 negative c whole rest meant h g reads =
    let text : Text = minus negative ++ ((c ∷ whole) ++ rest) in
    let digit : is_decimal c ≡ true = (and_parts _ _ h).0 in
    passed _ _ (no_word_of_11 _ c _ digit)
    ∙ passed _ _ (no_timestamp negative (c ∷ whole) rest h g)
    ∙ ap (λ t. first_reading (numbers_11 (is_negative text) t)) (past_minus _ c _ digit)
    ∙ ap (λ x. first_reading (numbers_11 x ((c ∷ whole) ++ rest))) (minus_read _ c _ digit) ∙ reads

-- an integer by 1.1
integer_by_11 : (negative : Bool) (c : ℕ) (digits : Text) → list_all is_decimal (c ∷ digits) ≡ true → Whole c digits
    → resolved_by_11 (minus negative ++ (c ∷ digits)) ≡ meant_integer (signed negative (digits_value 10 (c ∷ digits)))
integer_by_11 negative c digits h whole =
    ap (λ t. resolved_by_11 (minus negative ++ t)) (sym (append-nil (c ∷ digits)))
    ∙ past_sign_11 _ c _ [] _ h refl (ap (λ t. first_reading (numbers_11 negative t)) (append-nil (c ∷ digits)) ∙ integer_without_sign _ c _ h whole)

pub mantissa_11_read : (negative : Bool) (c : ℕ) (whole fraction : Text) → list_all is_decimal (c ∷ whole) ≡ true → list_all is_decimal fraction ≡ true
    → mantissa_11 negative ((c ∷ whole) ∷ fraction ∷ []) ≡ Some (decimal_of negative (c ∷ whole) fraction)
mantissa_11_read negative c whole fraction h g =
    ap (λ x. if x then decimal_of_digits negative (ungrouped (c ∷ whole)) (ungrouped fraction) else None) (and_from _ _
    (and_from _ _ (and_parts _ _ h).0 (digits_grouped (c ∷ whole) h)) (digits_grouped fraction g))
    ∙ ap (λ t. decimal_of_digits negative t (ungrouped fraction)) (digits_ungrouped (c ∷ whole) h)
    ∙ ap (decimal_of_digits negative (c ∷ whole)) (digits_ungrouped _ g) ∙ pointed_read _ c whole _ h g

float_11_read : (negative : Bool) (c : ℕ) (whole fraction : Text) (exponent : Option JsonExponent) → list_all is_decimal (c ∷ whole) ≡ true
    → list_all is_decimal fraction ≡ true → HasDigits exponent
    → float_11 negative ((c ∷ whole) ++ after_whole fraction exponent) ≡ Some (scientific_of negative (c ∷ whole) fraction exponent)
float_11_read negative c whole fraction exponent h g e =
    grind (arith, nat_tests, cut_read, scientific_read, exponent_11_signed, at_point, mantissa_11_read)

-- a number that is no integer, by 1.1
decimal_by_11 : (negative : Bool) (c : ℕ) (whole fraction : Text) (exponent : Option JsonExponent) → list_all is_decimal (c ∷ whole) ≡ true
    → list_all is_decimal fraction ≡ true → HasDigits exponent
    → resolved_by_11 (minus negative ++ ((c ∷ whole) ++ after_whole fraction exponent)) ≡ scientific_of negative (c ∷ whole) fraction exponent
decimal_by_11 negative c whole fraction exponent h g e = grind (arith, past_sign_11, found, float_11_read)

-- Both

-- a text's readings by the two schemas
abbrev ReadAs : Text → Resolved → Type 0
ReadAs text meant = (resolved_by_11 text ≡ meant) × (resolved_by_core text ≡ meant)

parts_read : (negative : Bool) (whole fraction : Text) (exponent : Option JsonExponent) → is_whole_part whole ≡ true → list_all is_decimal fraction ≡ true
    → HasDigits exponent → (integer : Bool)
    → ReadAs (minus negative ++ (whole ++ (if integer then [] else after_whole fraction exponent)))
    (if integer then meant_integer (signed negative (digits_value 10 whole)) else scientific_of negative whole fraction exponent)
parts_read negative [] fraction exponent h g e integer = absurd (true≢false (sym h))
parts_read negative (c ∷ whole) fraction exponent h g e integer = by integer
  where
    digits : list_all is_decimal (c ∷ whole) ≡ true
    digits =
        (and_parts (not (length (c ∷ whole) == 0)) (list_all is_decimal (c ∷ whole)) (and_parts _ _ h).0).1

    by : (x : Bool) → ReadAs (minus negative ++ ((c ∷ whole) ++ (if x then [] else after_whole fraction exponent)))
        (if x then meant_integer (signed negative (digits_value 10 (c ∷ whole))) else scientific_of negative (c ∷ whole) fraction exponent)
    by true = (
      ap (λ t. resolved_by_11 (minus negative ++ t)) (append-nil (c ∷ whole)) ∙ integer_by_11 negative c whole digits (whole_11 c whole h),
      ap (λ t. resolved_by_core (minus negative ++ t)) (append-nil (c ∷ whole)) ∙ integer_by_core negative c whole digits,
    )
    by false = (decimal_by_11 negative c whole fraction exponent digits g e, decimal_by_core negative c whole fraction exponent digits g e)

-- the digits after the point of a spelling
fraction_digits : (fraction : Option Text) → elim fraction as (λ _. Bool) [ None ↦ true | Some digits ↦ are_digits 10 digits ] ≡ true
    → list_all is_decimal (elim fraction as (λ _. Text) [ None ↦ codes "0" | Some digits ↦ digits ]) ≡ true
fraction_digits None h = refl
fraction_digits (Some digits) h = (and_parts (not (length digits == 0)) (list_all is_decimal digits) h).1

exponent_digits : (exponent : Option JsonExponent) → elim exponent as (λ _. Bool) [ None ↦ true | Some e ↦ are_digits 10 e.digits ] ≡ true → HasDigits exponent
exponent_digits None h = tt
exponent_digits (Some exponent) h = h

-- the spelling of a number has by both schemas the meaning that it is to have
pub spelling_read : (number : JsonNumber) → is_json_number number ≡ true → ReadAs (yaml_number number) (number_meant number)
spelling_read number h =
    let whole_fraction : Bool = is_whole_part number.whole && elim number.fraction as (λ _. Bool) [ None ↦ true | Some digits ↦ are_digits 10 digits ] in
    let well_exponent : Bool = elim number.exponent as (λ _. Bool) [ None ↦ true | Some exponent ↦ are_digits 10 exponent.digits ] in
    let outer : (whole_fraction ≡ true) × (well_exponent ≡ true) = and_parts whole_fraction well_exponent h in
    let inner : (is_whole_part number.whole ≡ true) × (elim number.fraction as (λ _. Bool) [ None ↦ true | Some digits ↦ are_digits 10 digits ] ≡ true) =
    and_parts (is_whole_part number.whole) _ outer.0 in
    let rest : Text = if is_json_integer number then [] else after_whole (fraction_or_default (codes "0") number) number.exponent in
    let regrouped : yaml_number number ≡ minus number.negative ++ (number.whole ++ rest) = append_assoc (minus number.negative) number.whole rest in
    let read : ReadAs (minus number.negative ++ (number.whole ++ rest)) (number_meant number) =
    parts_read number.negative number.whole (fraction_or_default (codes "0") number) number.exponent inner.0 (fraction_digits number.fraction inner.1)
    (exponent_digits number.exponent outer.1) (is_json_integer number) in
    (ap resolved_by_11 regrouped ∙ read.0, ap resolved_by_core regrouped ∙ read.1)

-- so every number of JSON, so spelled, is that number by both
pub numbers_are_read : NumbersAreRead
numbers_are_read number h =
    let read : ReadAs (yaml_number number) (number_meant number) = spelling_read number h in (
      ap (means_number (json_value number)) read.0 ∙ spelling_keeps_value number,
      ap (means_number (json_value number)) read.1 ∙ spelling_keeps_value number,
    )
