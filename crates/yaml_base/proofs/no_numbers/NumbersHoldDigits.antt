-- A text without a digit is no number and no timestamp, unless it is of points alone.
use Rattle.yaml_base.proofs.Common.{and_from, and_parts}
use Rattle.yaml_base.proofs.Common.{nat_tests, arith, ℕ, if◌then◌else◌, None, Bool, false, true, ◌||◌, List, [], ◌++◌, ◌∷◌, refl, ◌≡◌, eqb-true, true≢false}
use Rattle.yaml_base.proofs.Common.{ap, ◌∙◌, and_left, and_right, or_parts, or_from, list_any-append, concat, list_all, list_any, onto_first, slice_split}
use Rattle.yaml_base.proofs.Common.{Text, is_point, is_decimal, first_meets, past_sign, decimal_of_digits, core_mantissa, begins_grouped, mantissa_11}
use Rattle.yaml_base.proofs.{Common.has_more_points, Common.is_number_letter, AllPass.none_pass}
use Rattle.yaml_base.proofs.no_numbers.NoNumbers.{NoNumber, off, filled}
use Rattle.yaml_base.proofs.no_numbers.NumbersBegin.{first_part, digits_begin, scientific_begins, more_points_11_begins, begins_none}

-- a text holds a digit
abbrev holds_digit : Text → Bool
holds_digit text = list_any is_decimal text

first_without : (text : Text) → holds_digit text ≡ false → first_meets is_decimal text ≡ false
first_without [] h = refl
first_without (c ∷ rest) h = (or_parts (is_decimal c) (holds_digit rest) h).0

-- past its sign
past_sign_without : (test : ℕ → Bool) (text : Text) → list_any test text ≡ false → list_any test (past_sign text) ≡ false
past_sign_without test [] h = h
past_sign_without test (c ∷ rest) h = grind (arith, or_parts)

-- in its pieces
onto_without : (c : ℕ) (parts : List Text) → is_decimal c ≡ false → list_any holds_digit parts ≡ false
    → list_any holds_digit (onto_first c parts) ≡ false
onto_without c parts h k = grind (arith, nat_tests, or_from, or_parts)

parts_without : (sign : ℕ → Bool) (text : Text) → holds_digit text ≡ false → list_any holds_digit (slice_split sign text) ≡ false
parts_without sign [] h = refl
parts_without sign (c ∷ rest) h = by (sign c) (parts_without sign rest both.1)
  where
    both : (is_decimal c ≡ false) × (holds_digit rest ≡ false)
    both = or_parts (is_decimal c) (holds_digit rest) h

    by : (x : Bool) → list_any holds_digit (slice_split sign rest) ≡ false
        → list_any holds_digit (if x then [] ∷ slice_split sign rest else onto_first c (slice_split sign rest)) ≡ false
    by true later = later
    by false later = onto_without c (slice_split sign rest) both.0 later

first_part_without : (parts : List Text) → list_any holds_digit parts ≡ false → holds_digit (first_part parts) ≡ false
first_part_without [] h = refl
first_part_without (part ∷ parts) h = (or_parts (holds_digit part) (list_any holds_digit parts) h).0

-- and in all of them together
concat_without : (parts : List Text) → list_any holds_digit parts ≡ false → holds_digit (concat parts) ≡ false
concat_without [] h = refl
concat_without (part ∷ parts) h = grind (arith, and_parts, and_from, or_parts, or_from, list_any-append, concat_without parts)

-- ---- numbers

pointed_without : (negative : Bool) (whole fraction : Text) → holds_digit whole ≡ false → holds_digit fraction ≡ false
    → decimal_of_digits negative whole fraction ≡ None
pointed_without negative whole fraction one two =
    off _ _ (digits_begin (whole ++ fraction) (first_without (whole ++ fraction) (list_any-append is_decimal whole fraction ∙ or_from _ _ one two)))

begins_without : (text : Text) → holds_digit text ≡ false → begins_grouped is_decimal text ≡ false
begins_without text h = and_left (first_meets is_decimal text) _ (first_without text h)

core_mantissa_without : (negative : Bool) (parts : List Text) → list_any holds_digit parts ≡ false → core_mantissa negative parts ≡ None
core_mantissa_without negative parts h = grind (arith, nat_tests, pointed_without, or_parts)

mantissa_11_without : (negative : Bool) (parts : List Text) → list_any holds_digit parts ≡ false → mantissa_11 negative parts ≡ None
mantissa_11_without negative ([] ∷ fraction ∷ []) h = pointed_without negative [] fraction refl (or_parts (holds_digit fraction) false h).0
mantissa_11_without negative ((c ∷ whole) ∷ fraction ∷ []) h =
    off _ _ (and_left _ _ (begins_without (c ∷ whole) (or_parts (holds_digit (c ∷ whole)) (holds_digit fraction || false) h).0))
mantissa_11_without negative _ h = refl

more_points_without : (parts : List Text) → list_any holds_digit parts ≡ false → has_more_points parts ≡ false
more_points_without ([] ∷ a ∷ b ∷ rest) h =
    digits_begin (concat (a ∷ b ∷ rest)) (first_without (concat (a ∷ b ∷ rest)) (concat_without (a ∷ b ∷ rest) h))
more_points_without ((c ∷ whole) ∷ a ∷ b ∷ rest) h = grind (arith, and_left, or_from, filled, begins_without, or_parts)
more_points_without _ h = refl

-- ---- points alone

points_lack_letters : (text : Text) → list_all is_point text ≡ true → list_any is_number_letter text ≡ false
points_lack_letters text h = none_pass is_point is_number_letter (λ c e. ap is_number_letter (eqb-true c 0x2E e)) text h

not_points : (text : Text) → list_any is_number_letter text ≡ true → list_all is_point (past_sign text) ≡ false
not_points text h = grind (arith, or_from, eqb-true, true≢false, points_lack_letters)

-- ---- all

-- a text without a digit is no float
ruleset holds_no_float = (scientific_begins, mantissa_11_without, more_points_11_begins, more_points_without, core_mantissa_without, digits_begin, not_points)

-- with a letter it is no number and no timestamp
pub without_digits : (text : Text) → list_any is_decimal text ≡ false → list_any is_number_letter text ≡ true → NoNumber text
without_digits text h letter = grind (arith, begins_none, holds_no_float, first_without, and_right, past_sign_without, parts_without, first_part_without)
