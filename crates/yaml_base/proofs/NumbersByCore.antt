-- The core schema reads the spelling of a number of JSON as that number.
use Rattle.yaml_base.proofs.Common.{arith, nat_tests, ℕ, if◌then◌else◌, ◌==◌, Option, None, Some, codes, neg_ℤ, pos, ℤ, ◌+ℤ◌, length, Bool, false, true, List}
use Rattle.yaml_base.proofs.Common.{[], ◌++◌, ◌∷◌, ◌≡◌, append_assoc, ap, sym, ◌∙◌, and_parts, and_from, and_left, and_right, list_all-append, list_all}
use Rattle.yaml_base.proofs.Common.{slice_split, digits_value, Text, JsonExponent, minus, exponent_value, exponent_spelled, Decimal, Resolved, meant_integer}
use Rattle.yaml_base.proofs.Common.{meant_decimal, first_reading, is_exponent_letter, is_decimal, first_meets, signed, are_digits, decimal_of_digits}
use Rattle.yaml_base.proofs.Common.{exponent_read, times_power_of_ten, scientific, core_integer, core_based, core_decimal, resolved_by_core}
use Rattle.yaml_base.proofs.NumberCuts.{digit_unlike, some_digits, at_point, mantissa_of, exponent_parts, HasDigits, at_exponent, past_minus, minus_read}
use Rattle.yaml_base.proofs.NumberCuts.{no_word_of_core}

-- Readings, one after another

pub passed : (reading : Option Resolved) (rest : List (Option Resolved)) → reading ≡ None → first_reading (reading ∷ rest) ≡ first_reading rest
passed reading rest h = ap (λ r. first_reading (r ∷ rest)) h

pub found : (reading : Option Resolved) (rest : List (Option Resolved)) (meant : Resolved) → reading ≡ Some meant → first_reading (reading ∷ rest) ≡ meant
found reading rest meant h = ap (λ r. first_reading (r ∷ rest)) h

pub given : {A : Type 0} (test : Bool) (reading : A) → test ≡ true → (if test then Some reading else None) ≡ Some reading
given test reading h = ap (λ x. if x then Some reading else None) h

pub withheld : {A : Type 0} (test : Bool) (reading : A) → test ≡ false → (if test then Some reading else None) ≡ None
withheld test reading h = ap (λ x. if x then Some reading else None) h

-- Digits before and after a point

-- the decimal that they write
abbrev pub decimal_of : (negative : Bool) → (whole fraction : Text) → Decimal
decimal_of negative whole fraction = record {
  digits = signed negative (digits_value 10 (whole ++ fraction));
  exponent = neg_ℤ (pos (length fraction));
}

pub pointed_read : (negative : Bool) (c : ℕ) (whole fraction : Text) → list_all is_decimal (c ∷ whole) ≡ true → list_all is_decimal fraction ≡ true
    → decimal_of_digits negative (c ∷ whole) fraction ≡ Some (decimal_of negative (c ∷ whole) fraction)
pointed_read negative c whole fraction h g = grind (arith, given, some_digits, list_all-append, and_from)

-- An exponent

-- the sign before an exponent's digits
abbrev pub exponent_sign : Bool → Text
exponent_sign negative = if negative then codes "-" else codes "+"

pub exponent_read_signed : (negative : Bool) (digits : Text) → are_digits 10 digits ≡ true
    → exponent_read (exponent_sign negative ++ digits) ≡ Some (signed negative (digits_value 10 digits))
exponent_read_signed true digits h = given (are_digits 10 digits) (signed true (digits_value 10 digits)) h
exponent_read_signed false digits h = given (are_digits 10 digits) (signed false (digits_value 10 digits)) h

-- a mantissa and an exponent that are read give the decimal that both write
pub scientific_read : (mantissa : Text → Option Decimal) (read : Text → Option ℤ) (text : Text) (decimal : Decimal) (exponent : Option JsonExponent)
    → ((negative : Bool) (digits : Text) → are_digits 10 digits ≡ true
    → read (exponent_sign negative ++ digits) ≡ Some (signed negative (digits_value 10 digits)))
    → mantissa text ≡ Some decimal → HasDigits exponent
    → scientific mantissa read (text ∷ exponent_parts exponent)
    ≡ Some (meant_decimal (record { digits = decimal.digits; exponent = decimal.exponent +ℤ exponent_value exponent }))
scientific_read mantissa read text decimal None reads h e = ap (λ d. times_power_of_ten d (Some (pos 0))) h
scientific_read mantissa read text decimal (Some exponent) reads h e = grind (arith)

-- The core schema

-- an integer by the core schema
pub integer_by_core : (negative : Bool) (c : ℕ) (digits : Text) → list_all is_decimal (c ∷ digits) ≡ true
    → resolved_by_core (minus negative ++ (c ∷ digits)) ≡ meant_integer (signed negative (digits_value 10 (c ∷ digits)))
integer_by_core negative c digits h = grind (arith, passed, no_word_of_core, and_parts, found, past_minus, minus_read, given, some_digits)

-- the text after the whole part of a number that is no integer
abbrev pub after_whole : (fraction : Text) → Option JsonExponent → Text
after_whole fraction exponent = codes "." ++ fraction ++ exponent_spelled exponent

-- such a number is more than digits
not_digits : (c : ℕ) (whole fraction : Text) (exponent : Option JsonExponent) → are_digits 10 ((c ∷ whole) ++ after_whole fraction exponent) ≡ false
not_digits c whole fraction exponent = grind (arith, and_right, list_all-append)

core_integer_none : (negative : Bool) (c : ℕ) (rest : Text) → is_decimal c ≡ true → are_digits 10 (c ∷ rest) ≡ false
    → core_integer (minus negative ++ (c ∷ rest)) ≡ None
core_integer_none negative c rest digit h = grind (arith, withheld, past_minus)

-- no letter begins the text after a digit
pub no_letter : (letter : ℕ) (digits rest : Text) → is_decimal letter ≡ false → list_all is_decimal digits ≡ true → first_meets (λ c. c == letter) rest ≡ false
    → first_meets (λ c. c == letter) (digits ++ rest) ≡ false
no_letter letter [] rest other h g = g
no_letter letter (c ∷ digits) rest other h g = digit_unlike c letter other (and_parts (is_decimal c) (list_all is_decimal digits) h).0

pub core_based_none : (letter base : ℕ) (negative : Bool) (c : ℕ) (rest : Text) → first_meets (λ d. d == letter) rest ≡ false
    → core_based letter base (minus negative ++ (c ∷ rest)) ≡ None
core_based_none letter base negative c rest h = grind (arith, nat_tests, withheld, and_left, and_right)

-- a number that is no integer, cut at its exponent
pub cut_read : (c : ℕ) (whole fraction : Text) (exponent : Option JsonExponent) → list_all is_decimal (c ∷ whole) ≡ true → list_all is_decimal fraction ≡ true
    → HasDigits exponent
    → slice_split is_exponent_letter ((c ∷ whole) ++ after_whole fraction exponent) ≡ mantissa_of (c ∷ whole) fraction ∷ exponent_parts exponent
cut_read c whole fraction exponent h g e =
    ap (slice_split is_exponent_letter) (sym (append_assoc (c ∷ whole) (codes "." ++ fraction) (exponent_spelled exponent)))
    ∙ at_exponent (c ∷ whole) fraction exponent h g e

-- the meaning of such a number
abbrev pub scientific_of : (negative : Bool) → (whole fraction : Text) → Option JsonExponent → Resolved
scientific_of negative whole fraction exponent = meant_decimal (record {
  digits = signed negative (digits_value 10 (whole ++ fraction));
  exponent = neg_ℤ (pos (length fraction)) +ℤ exponent_value exponent;
})

core_decimal_read : (negative : Bool) (c : ℕ) (whole fraction : Text) (exponent : Option JsonExponent) → list_all is_decimal (c ∷ whole) ≡ true
    → list_all is_decimal fraction ≡ true → HasDigits exponent
    → core_decimal (minus negative ++ ((c ∷ whole) ++ after_whole fraction exponent)) ≡ Some (scientific_of negative (c ∷ whole) fraction exponent)
core_decimal_read negative c whole fraction exponent h g e =
    grind (arith, nat_tests, minus_read, past_minus, cut_read, scientific_read, exponent_read_signed, at_point, pointed_read, and_parts)

-- a number that is no integer, by the core schema
pub decimal_by_core : (negative : Bool) (c : ℕ) (whole fraction : Text) (exponent : Option JsonExponent) → list_all is_decimal (c ∷ whole) ≡ true
    → list_all is_decimal fraction ≡ true → HasDigits exponent
    → resolved_by_core (minus negative ++ ((c ∷ whole) ++ after_whole fraction exponent)) ≡ scientific_of negative (c ∷ whole) fraction exponent
decimal_by_core negative c whole fraction exponent h g e =
    grind (arith, passed, no_word_of_core, core_integer_none, not_digits, core_based_none, no_letter, found, core_decimal_read, and_parts)
