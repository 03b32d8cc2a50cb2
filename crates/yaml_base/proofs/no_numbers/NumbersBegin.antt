-- A text that begins with no digit and no point, past its sign, is no number and no timestamp.
use Rattle.yaml_base.proofs.Common.{nat_tests, arith, ℕ, ◌==◌, Option, None, ℤ, length, Bool, false, not, true, ◌||◌, List, [], ◌++◌, ◌∷◌, refl, ◌≡◌, eqb-true}
use Rattle.yaml_base.proofs.Common.{true≢false, and_left, and_right, or_parts, or_from, false≢true, slice_split-cons_no, take_while-cons, onto_first}
use Rattle.yaml_base.proofs.Common.{slice_split, take_while, Text, is_between, Decimal, is_point, is_decimal, first_meets, past_sign, are_digits}
use Rattle.yaml_base.proofs.Common.{counted_digits, decimal_of_digits, scientific, core_mantissa, is_leading, octal_11, decimal_11, are_sixtieths}
use Rattle.yaml_base.proofs.Common.{fine_sixties_11, mantissa_11, has_more_points, more_points_11, is_date, in_date, timestamp_11}
use Rattle.yaml_base.proofs.no_numbers.NoNumbers.{NoNumber, off, filled}

-- a digit or a point
abbrev pub begins_digits : ℕ → Bool
begins_digits c = is_decimal c || is_point c

-- the first of some pieces
abbrev pub first_part : List Text → Text
first_part [] = []
first_part (part ∷ parts) = part

onto_first_begins : (test : ℕ → Bool) (c : ℕ) (parts : List Text) → first_meets test (first_part (onto_first c parts)) ≡ test c
onto_first_begins test c parts = grind (arith, nat_tests)

-- a cut text's first piece begins as the text does, or is empty
pub split_begins : (test sign : ℕ → Bool) (text : Text) → first_meets test text ≡ false → first_meets test (first_part (slice_split sign text)) ≡ false
split_begins test sign text h = grind (arith, nat_tests, onto_first_begins)

-- a character that is no digit isn't this one, which is
pub unlike : (c n : ℕ) → is_decimal n ≡ true → is_decimal c ≡ false → (c == n) ≡ false
unlike c n digit other = grind (arith, true≢false, eqb-true)

-- Numbers without their sign

pub digits_begin : (text : Text) → first_meets is_decimal text ≡ false → are_digits 10 text ≡ false
digits_begin [] h = refl
digits_begin (c ∷ rest) h = and_right (not (length (c ∷ rest) == 0)) _ (and_left (is_decimal c) _ h)

pointed_begins : (negative : Bool) (c : ℕ) (whole fraction : Text) → is_decimal c ≡ false → decimal_of_digits negative (c ∷ whole) fraction ≡ None
pointed_begins negative c whole fraction h = off _ _ (digits_begin ((c ∷ whole) ++ fraction) h)

pub scientific_begins : (mantissa : Text → Option Decimal) (exponent : Text → Option ℤ) (parts : List Text) → mantissa (first_part parts) ≡ None
    → scientific mantissa exponent parts ≡ None
scientific_begins mantissa exponent parts h = grind (arith, nat_tests)

core_mantissa_begins : (negative : Bool) (text : Text) → first_meets begins_digits text ≡ false → core_mantissa negative (slice_split is_point text) ≡ None
core_mantissa_begins negative text h = grind (arith, nat_tests, slice_split-cons_no, or_parts, pointed_begins)

mantissa_11_begins : (negative : Bool) (text : Text) → first_meets begins_digits text ≡ false → mantissa_11 negative (slice_split is_point text) ≡ None
mantissa_11_begins negative text h = grind (arith, nat_tests, slice_split-cons_no, or_parts, off, and_left)

more_points_begin : (text : Text) → first_meets begins_digits text ≡ false → has_more_points (slice_split is_point text) ≡ false
more_points_begin text h = grind (arith, nat_tests, slice_split-cons_no, or_parts, and_left, or_from, filled)

pub more_points_11_begins : (parts : List Text) → has_more_points (slice_split is_point (first_part parts)) ≡ false → more_points_11 parts ≡ None
more_points_11_begins parts h = grind (arith, nat_tests, off, and_left)

pub groups_begin : (test : ℕ → Bool) (groups : List Text) → first_meets test (first_part groups) ≡ false → are_sixtieths test groups ≡ false
groups_begin test groups h = grind (arith, nat_tests, and_left)

pub fine_sixties_begin : (negative : Bool) (parts : List Text) → first_meets is_decimal (first_part parts) ≡ false → fine_sixties_11 negative parts ≡ None
fine_sixties_begin negative parts h = grind (arith, nat_tests, off, and_left, groups_begin, split_begins)

pub octal_11_begins : (negative : Bool) (text : Text) → first_meets is_decimal text ≡ false → octal_11 negative text ≡ None
octal_11_begins negative text h = grind (arith, nat_tests, off, and_left, unlike)

pub leading_begins : (text : Text) → first_meets is_decimal text ≡ false → first_meets is_leading text ≡ false
leading_begins [] h = refl
leading_begins (c ∷ rest) h = and_left (is_decimal c) _ h

pub decimal_11_begins : (negative : Bool) (text : Text) → first_meets is_decimal text ≡ false → decimal_11 negative text ≡ None
decimal_11_begins negative text h = grind (arith, nat_tests, off, or_from, and_left, unlike, leading_begins)

-- Timestamps

date_prefix : (text : Text) → first_meets is_decimal text ≡ false → first_meets is_decimal (take_while in_date text) ≡ false
date_prefix text h = grind (arith, nat_tests, take_while-cons)

year_begins : (text : Text) → first_meets is_decimal text ≡ false → counted_digits 4 4 text ≡ false
year_begins [] h = refl
year_begins (c ∷ rest) h = and_right (is_between 4 4 (length (c ∷ rest))) _ (and_left (is_decimal c) _ h)

date_begins : (least : ℕ) (parts : List Text) → first_meets is_decimal (first_part parts) ≡ false → is_date least parts ≡ false
date_begins least parts h = grind (arith, nat_tests, and_left, year_begins)

pub timestamp_begins : (text : Text) → first_meets is_decimal text ≡ false → timestamp_11 text ≡ None
timestamp_begins text h = grind (arith, off, or_from, and_left, date_begins, split_begins, date_prefix)

-- a sign begins no number, so the text itself begins none either
whole_begins : (text : Text) → first_meets begins_digits (past_sign text) ≡ false → first_meets is_decimal text ≡ false
whole_begins text h = grind (arith, nat_tests, eqb-true, false≢true, or_parts)

digit_begins : (text : Text) → first_meets begins_digits text ≡ false → first_meets is_decimal text ≡ false
digit_begins [] h = refl
digit_begins (c ∷ rest) h = (or_parts (is_decimal c) (is_point c) h).0

point_begins : (text : Text) → first_meets begins_digits text ≡ false → first_meets is_point text ≡ false
point_begins [] h = refl
point_begins (c ∷ rest) h = (or_parts (is_decimal c) (is_point c) h).1

-- ---- all

-- a text that begins with no digit is none of these
pub ruleset begins_none = (timestamp_begins, octal_11_begins, decimal_11_begins, off, groups_begin, split_begins, leading_begins, fine_sixties_begin)

-- nor, without a point, a float
ruleset begins_no_float = (scientific_begins, mantissa_11_begins, more_points_11_begins, more_points_begin, core_mantissa_begins, digits_begin, point_begins)

-- it is no number and no timestamp
pub without_begin : (text : Text) → first_meets begins_digits (past_sign text) ≡ false → NoNumber text
without_begin text h = grind (arith, begins_none, begins_no_float, whole_begins, and_left, digit_begins)
