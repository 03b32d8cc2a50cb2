-- A text that holds a character which no number holds is no number and no timestamp.
use Rattle.yaml_base.proofs.Common.{nat_tests, and-true, ℕ, ◌==◌, Option, None, codes, ℤ, length, Bool, false, not, true, ◌&&◌, ◌||◌, List, [], ◌++◌, ◌∷◌, ◌⊎◌}
use Rattle.yaml_base.proofs.Common.{refl, ◌≡◌, eqb-true, lt-ltb, ltb-true, true≢false, inl, inr, ap, sym, ◌∙◌, arith, or_cases, and_cases, and_left, and_right}
use Rattle.yaml_base.proofs.Common.{or_from, or_left, list_all-append, bytes_eq-Decides, digit_value, concat, list_all, onto_first, slice_split, Text}
use Rattle.yaml_base.proofs.Common.{is_between, is_blank, is_word, Decimal, is_point, is_exponent_letter, is_plus_or_minus, is_decimal, first_meets, past_sign}
use Rattle.yaml_base.proofs.Common.{is_negative, are_digits, counted_digits, decimal_of_digits, exponent_read, scientific, core_mantissa, are_grouped}
use Rattle.yaml_base.proofs.Common.{begins_grouped, is_leading, octal_11, decimal_11, are_sixtieths, is_colon, fine_sixties_11, mantissa_11, exponent_11}
use Rattle.yaml_base.proofs.Common.{has_more_points, more_points_11, past, is_hyphen, is_time_after_date, in_date, timestamp_11, in_number}
use Rattle.yaml_base.proofs.no_numbers.NoNumbers.{NoNumber, off, filled, past_cons}
use Rattle.yaml_base.specs.values.SchemaOf11.{is_sixtieth, is_offset, is_zone, in_clock, is_time}
use Rattle.std.specs.Char.{is_digit}

-- a text has the characters of numbers alone
abbrev within : Text → Bool
within text = list_all in_number text

-- ---- tests

-- if not all pass a test, not all pass a stronger one
stronger : {X : Type 0} (weak strong : X → Bool) → ((x : X) → strong x ≡ true → weak x ≡ true) → (xs : List X)
    → list_all weak xs ≡ false → list_all strong xs ≡ false
stronger weak strong implied [] h = absurd (true≢false h)
stronger weak strong implied (x ∷ xs) h = grind (arith, stronger weak strong implied xs)

-- the last of two
two_cases : (x y : Bool) → (x && (y && true)) ≡ false → (x ≡ false) ⊎ (y ≡ false)
two_cases false y h = inl refl
two_cases true y h = inr (sym (and-true y) ∙ h)

-- ---- characters

digit_stands : (c : ℕ) → is_decimal c ≡ true → in_number c ≡ true
digit_stands c h = or_left _ _ (or_left _ _ (or_left (is_decimal c) _ h))

octal_stands : (c : ℕ) → is_digit c 8 ≡ true → in_number c ≡ true
octal_stands c h = let few = ltb-true (digit_value c) 8 h in digit_stands c (lt-ltb (digit_value c) 10 (omega (arith, few)))

-- one that is a character of numbers
same_stands : (n c : ℕ) → in_number n ≡ true → (c == n) ≡ true → in_number c ≡ true
same_stands n c h e = ap in_number (eqb-true c n e) ∙ h

-- one of two
either_stands : (n m c : ℕ) → in_number n ≡ true → in_number m ≡ true → (c == n || c == m) ≡ true → in_number c ≡ true
either_stands n m c h k e = grind (arith, or_cases, same_stands)

sign_stands : (c : ℕ) → is_plus_or_minus c ≡ true → in_number c ≡ true
sign_stands c h = either_stands 0x2B 0x2D c refl refl h

mark_stands : (c : ℕ) → is_exponent_letter c ≡ true → in_number c ≡ true
mark_stands c h = either_stands 0x65 0x45 c refl refl h

blank_stands : (c : ℕ) → is_blank c ≡ true → in_number c ≡ true
blank_stands c h = either_stands 0x20 0x9 c refl refl h

point_stands : (c : ℕ) → is_point c ≡ true → in_number c ≡ true
point_stands c h = same_stands 0x2E c refl h

colon_stands : (c : ℕ) → is_colon c ≡ true → in_number c ≡ true
colon_stands c h = same_stands 0x3A c refl h

-- a digit or another character of numbers
or_stands : (test other : ℕ → Bool) → ((c : ℕ) → test c ≡ true → in_number c ≡ true) → ((c : ℕ) → other c ≡ true → in_number c ≡ true)
    → (c : ℕ) → (test c || other c) ≡ true → in_number c ≡ true
or_stands test other one two c h = grind (arith, or_cases)

date_stands : (c : ℕ) → in_date c ≡ true → in_number c ≡ true
date_stands c h = or_stands is_decimal is_hyphen digit_stands (λ d k. same_stands 0x2D d refl k) c h

clock_stands : (c : ℕ) → in_clock c ≡ true → in_number c ≡ true
clock_stands c h =
    or_stands (λ d. is_decimal d || is_colon d) is_point (or_stands is_decimal is_colon digit_stands colon_stands) point_stands c h

-- ---- digits

digits_outside : (text : Text) → within text ≡ false → are_digits 10 text ≡ false
digits_outside text h = and_right (not (length text == 0)) _ (stronger in_number is_decimal digit_stands text h)

grouped_outside : (base : ℕ) → ((c : ℕ) → is_digit c base ≡ true → in_number c ≡ true) → (text : Text) → within text ≡ false → are_grouped base text ≡ false
grouped_outside base stands text h =
    stronger _ _ (or_stands _ _ stands (λ c e. same_stands 0x5F c refl e)) text h

counted_outside : (least most : ℕ) (text : Text) → within text ≡ false → counted_digits least most text ≡ false
counted_outside least most text h = and_right (is_between least most (length text)) _ (stronger in_number is_decimal digit_stands text h)

begins_outside : (test : ℕ → Bool) (text : Text) → within text ≡ false → begins_grouped test text ≡ false
begins_outside test text h = and_right (first_meets test text) _ (grouped_outside 10 digit_stands text h)

filled_outside : (text : Text) → within text ≡ false → (length text == 0) ≡ false
filled_outside [] h = absurd (true≢false h)
filled_outside (c ∷ rest) h = filled (length rest)

word_outside : (word text : Text) → within word ≡ true → within text ≡ false → is_word text word ≡ false
word_outside word text k h = grind (arith, true≢false, bytes_eq-Decides)

-- ---- pieces

-- such a character is in one of the pieces
onto_within : (c : ℕ) (parts : List Text) → list_all within (onto_first c parts) ≡ (in_number c && list_all within parts)
onto_within c [] = grind (arith)
onto_within c (part ∷ parts) = grind (arith)

parts_outside : (sign : ℕ → Bool) → ((c : ℕ) → sign c ≡ true → in_number c ≡ true) → (text : Text) → within text ≡ false
    → list_all within (slice_split sign text) ≡ false
parts_outside sign stands [] h = absurd (true≢false h)
parts_outside sign stands (c ∷ rest) h = grind (arith, and_left, and_right, onto_within, and_cases, parts_outside sign stands rest)

-- or in all of them together
concat_within : (parts : List Text) → within (concat parts) ≡ list_all within parts
concat_within [] = refl
concat_within (part ∷ parts) = list_all-append in_number part (concat parts) ∙ ap (λ x. within part && x) (concat_within parts)

-- past characters of numbers it is still there
past_outside : (test : ℕ → Bool) → ((c : ℕ) → test c ≡ true → in_number c ≡ true) → (text : Text) → within text ≡ false → within (past test text) ≡ false
past_outside test stands [] h = absurd (true≢false h)
past_outside test stands (c ∷ rest) h = grind (arith, past_cons, past_outside test stands rest)

sign_outside : (text : Text) → within text ≡ false → within (past_sign text) ≡ false
sign_outside [] h = h
sign_outside (c ∷ rest) h = grind (arith, sign_stands)

-- ---- floats

scientific_outside : (mantissa : Text → Option Decimal) (exponent : Text → Option ℤ) → ((text : Text) → within text ≡ false → mantissa text ≡ None)
    → ((text : Text) → within text ≡ false → exponent text ≡ None) → (parts : List Text) → list_all within parts ≡ false
    → scientific mantissa exponent parts ≡ None
scientific_outside mantissa exponent h k parts e = grind (arith, nat_tests, and-true, two_cases)

exponent_outside : (text : Text) → within text ≡ false → exponent_read text ≡ None
exponent_outside text h = off _ _ (digits_outside (past_sign text) (sign_outside text h))

exponent_11_outside : (text : Text) → within text ≡ false → exponent_11 text ≡ None
exponent_11_outside text h = grind (arith, exponent_outside)

pointed_outside : (negative : Bool) (whole fraction : Text) → (within whole && within fraction) ≡ false → decimal_of_digits negative whole fraction ≡ None
pointed_outside negative whole fraction h = off _ _ (digits_outside (whole ++ fraction) (list_all-append in_number whole fraction ∙ h))

core_mantissa_outside : (negative : Bool) (parts : List Text) → list_all within parts ≡ false → core_mantissa negative parts ≡ None
core_mantissa_outside negative parts h = grind (arith, nat_tests, pointed_outside, and-true)

mantissa_11_outside : (negative : Bool) (parts : List Text) → list_all within parts ≡ false → mantissa_11 negative parts ≡ None
mantissa_11_outside negative ([] ∷ fraction ∷ []) h = pointed_outside negative [] fraction (sym (and-true (within fraction)) ∙ h)
mantissa_11_outside negative ((c ∷ whole) ∷ fraction ∷ []) h =
    grind (arith, off, two_cases, and_left, begins_outside, and_right, grouped_outside, digit_stands)
mantissa_11_outside negative _ h = refl

points_outside : (parts : List Text) → list_all within parts ≡ false → has_more_points parts ≡ false
points_outside parts h =
    grind (arith, nat_tests, and_cases, and_left, or_from, filled_outside, begins_outside, and_right, digits_outside, list_all-append, concat_within)

more_points_outside : (parts : List Text) → list_all within parts ≡ false → more_points_11 parts ≡ None
more_points_outside parts h =
    grind (arith, nat_tests, off, points_outside, parts_outside, point_stands, and-true, two_cases, and_left, and_right, digits_outside, sign_outside)

-- ---- integers

octal_outside : (negative : Bool) (text : Text) → within text ≡ false → octal_11 negative text ≡ None
octal_outside negative [] h = refl
octal_outside negative (c ∷ []) h = refl
octal_outside negative (c ∷ d ∷ rest) h = off _ _ (by (c == 0x30) refl)
  where
    by : (x : Bool) → (c == 0x30) ≡ x → (x && are_grouped 8 (d ∷ rest)) ≡ false
    by true e = grouped_outside 8 octal_stands (d ∷ rest) (sym (ap (λ t. t && within (d ∷ rest)) (same_stands 0x30 c refl e)) ∙ h)
    by false e = refl

decimal_outside : (negative : Bool) (text : Text) → within text ≡ false → decimal_11 negative text ≡ None
decimal_outside negative text h = off _ _ (or_from _ _ (word_outside (codes "0") text refl h) (begins_outside is_leading text h))

sixtieth_stands : (text : Text) → is_sixtieth text ≡ true → within text ≡ true
sixtieth_stands text k = grind (arith, true≢false, and_left, counted_outside)

groups_outside : (test : ℕ → Bool) (groups : List Text) → list_all within groups ≡ false → are_sixtieths test groups ≡ false
groups_outside test groups h = grind (arith, nat_tests, and_cases, and_left, begins_outside, and_right, stronger, sixtieth_stands)

fine_sixties_outside : (negative : Bool) (parts : List Text) → list_all within parts ≡ false → fine_sixties_11 negative parts ≡ None
fine_sixties_outside negative parts h =
    grind (arith, nat_tests, off, two_cases, and_left, groups_outside, parts_outside, colon_stands, and_right, grouped_outside, digit_stands)

-- ---- timestamps

-- it is in the rest if the first character isn't it
rest_outside : (c : ℕ) (rest : Text) (test later : Bool) → (test ≡ true → in_number c ≡ true) → (within rest ≡ false → later ≡ false)
    → within (c ∷ rest) ≡ false → (test && later) ≡ false
rest_outside c rest false later stands fails h = refl
rest_outside c rest true later stands fails h = fails (sym (ap (λ t. t && within rest) (stands refl)) ∙ h)

offset_outside : (parts : List Text) → list_all within parts ≡ false → is_offset parts ≡ false
offset_outside parts h = grind (arith, nat_tests, counted_outside, and-true, two_cases, and_left, and_right)

zone_outside : (text : Text) → within text ≡ false → is_zone text ≡ false
zone_outside [] h = refl
zone_outside (c ∷ rest) h =
    or_from _ _ (rest_outside c rest _ _ (λ e. same_stands 0x5A c refl e) (filled_outside rest) h) (rest_outside c rest _ _ (sign_stands c)
    (λ e. offset_outside (slice_split is_colon rest) (parts_outside is_colon colon_stands rest e)) h)

time_outside : (text : Text) → within text ≡ false → is_time text ≡ false
time_outside text h = grind (arith, and_right, or_from, filled_outside, zone_outside, past_outside, blank_stands, clock_stands)

after_date_outside : (text : Text) → within text ≡ false → is_time_after_date text ≡ false
after_date_outside [] h = refl
after_date_outside (c ∷ rest) h =
    or_from _ _ (rest_outside c rest _ _ (either_stands 0x54 0x74 c refl refl) (time_outside rest) h) (rest_outside c rest _ _ (blank_stands c)
    (λ e. time_outside (past is_blank rest) (past_outside is_blank blank_stands rest e)) h)

timestamp_outside : (text : Text) → within text ≡ false → timestamp_11 text ≡ None
timestamp_outside text h = grind (arith, off, or_from, and_right, filled_outside, after_date_outside, past_outside, date_stands)

-- ---- all

-- it is no number and no timestamp
pub with_others : (text : Text) → list_all in_number text ≡ false → NoNumber text
with_others text h =
    let number : Text = past_sign text in
    let later : within number ≡ false = sign_outside text h in
    let parts : List Text = slice_split is_exponent_letter number in
    let at_mark : list_all within parts ≡ false = parts_outside is_exponent_letter mark_stands number later in
    record {
      timestamp = timestamp_outside text h;
      float = scientific_outside mantissa_read exponent_11 mantissa_outside exponent_11_outside parts at_mark;
      octal = octal_outside negative number later;
      decimal = decimal_outside negative number later;
      sixties = off _ _ (groups_outside is_leading (slice_split is_colon number) (parts_outside is_colon colon_stands number later));
      fine_sixties = fine_sixties_outside negative (slice_split is_point number) (at_point number later);
      more_points = more_points_outside parts at_mark;
      points = off _ _ (and_right (first_meets is_point number) _ (stronger in_number is_point point_stands number later));
      core_integer = off _ _ (digits_outside number later);
      core_decimal = scientific_outside core_mantissa_read exponent_read of_core exponent_outside parts at_mark;
    }
  where
    negative : Bool
    negative = is_negative text

    at_point : (m : Text) → within m ≡ false → list_all within (slice_split is_point m) ≡ false
    at_point m e = parts_outside is_point point_stands m e

    mantissa_read : Text → Option Decimal
    mantissa_read m = mantissa_11 negative (slice_split is_point m)

    mantissa_outside : (m : Text) → within m ≡ false → mantissa_read m ≡ None
    mantissa_outside m e = mantissa_11_outside negative (slice_split is_point m) (at_point m e)

    core_mantissa_read : Text → Option Decimal
    core_mantissa_read m = core_mantissa negative (slice_split is_point m)

    of_core : (m : Text) → within m ≡ false → core_mantissa_read m ≡ None
    of_core m e = core_mantissa_outside negative (slice_split is_point m) (at_point m e)
