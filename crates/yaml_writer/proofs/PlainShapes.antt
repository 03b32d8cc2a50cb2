-- Numbers that both schemas read, by their shapes: the characters that they have, and how they begin.
use Rattle.yaml_writer.proofs.Common.{ℕ, ◌<◌, append-nil, append_assoc, if◌then◌else◌, ◌==◌, nat_lt, length, Bool, false, not, true, ◌&&◌, ◌||◌, List, []}
use Rattle.yaml_writer.proofs.Common.{◌++◌, ◌∷◌}
use Rattle.yaml_writer.proofs.Common.{refl, ◌≡◌, eqb-true, ltb-true, true≢false, ap, sym, ◌∙◌, arith, and_parts, and_from, or_from}
use Rattle.yaml_writer.proofs.Common.{list_all-append, digit_value, list_all, Text, is_decimal, first_meets, are_digits}
use Rattle.yaml_writer.proofs.Common.{is_whole_part, digit_unlike}
use Rattle.yaml_base.proofs.Common.{agree_below_at, ◌⊎◌, inl, inr, or_cases, or_left, or_right, onto_first, slice_split, lt-ltb, is_empty, is_point}
use Rattle.yaml_base.proofs.Common.{is_exponent_letter, is_plus_or_minus, past_sign}
use Rattle.std.proofs.lemmas.List.Splits.{length-slice_split, slice_split-cons_yes, slice_split-cons_no}
use Rattle.std.{proofs.lemmas.Bool.agree_below, specs.Char.is_digit}
use Rattle.yaml_base.proofs.AllPass.{all_pass}
use Rattle.yaml_base.specs.scalars.Analysis.{is_gap, begins_like_marker, begins_unlike_plain}
use Rattle.yaml_base.proofs.{AsciiWords.is_ascii_text, Common.nat_tests}
use Rattle.yaml_writer.proofs.PlainNumbers.{begins_as_plain, digit_harmless, is_harmless, no_exclamation, no_exponent_letter_after, no_harm}
use Rattle.yaml_writer.specs.PlainTags.{is_padded_digit, are_integer_digits, is_hexadecimal, is_pointed, is_signed, is_float_cut, is_plain_float}

-- ---- cuts

-- a text that is cut at signs, by its first part: all of it, or the text before a sign
pub data Cut (sign : ℕ → Bool) (text first : Text) (others : List Text) : Type 0 where
  uncut : text ≡ first → others ≡ [] → Cut sign text first others
  cut : (c : ℕ) (more : Text) → text ≡ first ++ (c ∷ more) → sign c ≡ true → slice_split sign more ≡ others → Cut sign text first others

pub some_part : (sign : ℕ → Bool) (text : Text) → slice_split sign text ≡ [] → ⊥
some_part sign text e = omega (arith, length-slice_split sign text, ap length e)

pub cut_of : (sign : ℕ → Bool) (text first : Text) (others : List Text) → slice_split sign text ≡ first ∷ others → Cut sign text first others
cut_of sign [] first others e = let is : [] ≡ first = cc in let none : others ≡ [] = cc in uncut is none
cut_of sign (c ∷ rest) first others e = by (sign c) (slice_split sign rest) refl refl (λ part parts is. cut_of sign rest part parts is)
  where
    by : (x : Bool) (parts : List Text) → sign c ≡ x → slice_split sign rest ≡ parts
        → ((part : Text) (parts : List Text) → slice_split sign rest ≡ part ∷ parts → Cut sign rest part parts) → Cut sign (c ∷ rest) first others
    by true parts h is behind =
        let split : [] ∷ slice_split sign rest ≡ first ∷ others = sym (slice_split-cons_yes sign c rest h) ∙ e in
        let begins : c ∷ rest ≡ first ++ (c ∷ rest) = cc in
        let same : slice_split sign rest ≡ others = cc in
        cut c rest begins h same
    by false [] h is behind = absurd (some_part sign rest is)
    by false (part ∷ parts) h is behind =
        let split = sym (ap (onto_first c) is) ∙ sym (slice_split-cons_no sign c rest h) ∙ e in
        later (behind part parts is)
      where
        later : Cut sign rest part parts → Cut sign (c ∷ rest) first others
        later (uncut whole none) =
            let all : c ∷ rest ≡ first = cc in let same : others ≡ [] = cc in uncut all same
        later (cut d more text_is at others_are) =
            let all : c ∷ rest ≡ first ++ (d ∷ more) = cc in let same : slice_split sign more ≡ others = cc in cut d more all at same

-- If all parts and the signs pass a test, the text passes it.
onto_passes : (test : ℕ → Bool) (c : ℕ) (parts : List Text)
    → list_all (λ part. list_all test part) (onto_first c parts) ≡ (test c && list_all (λ part. list_all test part) parts)
onto_passes test c [] = grind (arith)
onto_passes test c (part ∷ parts) = grind (arith)

pub cut_passes : (test sign : ℕ → Bool) → ((c : ℕ) → sign c ≡ true → test c ≡ true) → (text : Text)
    → list_all (λ part. list_all test part) (slice_split sign text) ≡ list_all test text
cut_passes test sign passes [] = refl
cut_passes test sign passes (c ∷ rest) = by (sign c) refl (cut_passes test sign passes rest)
  where
    by : (x : Bool) → sign c ≡ x → list_all (λ part. list_all test part) (slice_split sign rest) ≡ list_all test rest
        → list_all (λ part. list_all test part) (if x then [] ∷ slice_split sign rest else onto_first c (slice_split sign rest))
        ≡ (test c && list_all test rest)
    by true e later = later ∙ sym (ap (λ x. x && list_all test rest) (passes c e))
    by false e later = onto_passes test c (slice_split sign rest) ∙ ap (λ x. test c && x) later

-- ---- characters

-- a character of such a number
abbrev pub in_plain_number : ℕ → Bool
in_plain_number c = is_digit c 16 || is_plus_or_minus c || is_point c || c == 0x78

-- digits in a base are digits in a greater one
octal_decimal : (c : ℕ) → is_digit c 8 ≡ true → is_decimal c ≡ true
octal_decimal c h = lt-ltb (digit_value c) 10 (omega (arith, ltb-true (digit_value c) 8 h))

hexadecimal_stands : (c : ℕ) → is_digit c 16 ≡ true → in_plain_number c ≡ true
hexadecimal_stands c h =
    or_left (is_digit c 16 || is_plus_or_minus c || is_point c) _ (or_left (is_digit c 16 || is_plus_or_minus c) _ (or_left (is_digit c 16) _ h))

decimal_stands : (c : ℕ) → is_decimal c ≡ true → in_plain_number c ≡ true
decimal_stands c h = hexadecimal_stands c (lt-ltb (digit_value c) 16 (omega (arith, ltb-true (digit_value c) 10 h)))

sign_stands : (c : ℕ) → is_plus_or_minus c ≡ true → in_plain_number c ≡ true
sign_stands c h =
    or_left (is_digit c 16 || is_plus_or_minus c || is_point c) _ (or_left (is_digit c 16 || is_plus_or_minus c) _ (or_right (is_digit c 16) _ h))

point_stands : (c : ℕ) → is_point c ≡ true → in_plain_number c ≡ true
point_stands c h = ap in_plain_number (eqb-true c 0x2E h)

letter_stands : (c : ℕ) → is_exponent_letter c ≡ true → in_plain_number c ≡ true
letter_stands c h = by (or_cases (c == 0x65) (c == 0x45) h)
  where
    by : ((c == 0x65) ≡ true) ⊎ ((c == 0x45) ≡ true) → in_plain_number c ≡ true
    by (inl e) = ap in_plain_number (eqb-true c 0x65 e)
    by (inr e) = ap in_plain_number (eqb-true c 0x45 e)

-- ---- digits

pub all_digits : (base : ℕ) (digits : Text) → are_digits base digits ≡ true → list_all (λ c. is_digit c base) digits ≡ true
all_digits base digits h = (and_parts (not (length digits == 0)) (list_all (λ c. is_digit c base) digits) h).1

-- digits of an integer are decimal ones
pub integer_digits : (digits : Text) → are_integer_digits digits ≡ true → are_digits 10 digits ≡ true
integer_digits digits h = by (or_cases (is_whole_part digits) (is_padded_digit digits) h)
  where
    by : (is_whole_part digits ≡ true) ⊎ (is_padded_digit digits ≡ true) → are_digits 10 digits ≡ true
    by (inl whole) = (and_parts (are_digits 10 digits) _ whole).0
    by (inr padded) =
        let octal = (and_parts (are_digits 8 digits) _ padded).0 in
        let both = and_parts (not (length digits == 0)) (list_all (λ c. is_digit c 8) digits) octal in
        and_from _ _ both.0 (all_pass (λ c. is_digit c 8) is_decimal octal_decimal digits both.1)

-- ---- characters of numbers

abbrev Stands : Text → Type 0
Stands text = list_all in_plain_number text ≡ true

past_sign_stands : (text : Text) → Stands (past_sign text) → Stands text
past_sign_stands [] h = h
past_sign_stands (c ∷ rest) h = by (is_plus_or_minus c) refl h
  where
    by : (x : Bool) → is_plus_or_minus c ≡ x → Stands (if x then rest else c ∷ rest) → Stands (c ∷ rest)
    by true e later = and_from _ _ (sign_stands c e) later
    by false e all = all

digits_stand : (digits : Text) → are_digits 10 digits ≡ true → Stands digits
digits_stand digits h = all_pass is_decimal in_plain_number decimal_stands digits (all_digits 10 digits h)

pointed_stands : (text : Text) → is_pointed (slice_split is_point text) ≡ true → Stands text
pointed_stands text h = sym (cut_passes in_plain_number is_point point_stands text) ∙ by (slice_split is_point text) h
  where
    by : (parts : List Text) → is_pointed parts ≡ true → list_all (λ part. list_all in_plain_number part) parts ≡ true
    by [] h = refl
    by (whole ∷ fraction ∷ []) h =
        let both = and_parts (list_all in_plain_number whole) (list_all in_plain_number fraction)
        (sym (list_all-append in_plain_number whole fraction) ∙ digits_stand (whole ++ fraction) h) in
        and_from _ _ both.0 (and_from _ true both.1 refl)
    by _ h = absurd (true≢false (sym h))

float_stands : (text : Text) → is_float_cut (slice_split is_exponent_letter text) ≡ true → Stands text
float_stands text h = sym (cut_passes in_plain_number is_exponent_letter letter_stands text) ∙ by (slice_split is_exponent_letter text) h
  where
    by : (parts : List Text) → is_float_cut parts ≡ true → list_all (λ part. list_all in_plain_number part) parts ≡ true
    by [] h = refl
    by (mantissa ∷ []) h = and_from _ true (pointed_stands mantissa h) refl
    by (mantissa ∷ exponent ∷ []) h =
        let both = and_parts (is_pointed (slice_split is_point mantissa)) (is_signed exponent) h in
        let digits = (and_parts (first_meets is_plus_or_minus exponent) (are_digits 10 (past_sign exponent)) both.1).1 in
        and_from _ _ (pointed_stands mantissa both.0) (and_from _ true (past_sign_stands exponent (digits_stand (past_sign exponent) digits)) refl)
    by (a ∷ b ∷ c ∷ rest) h = absurd (true≢false (sym h))

-- `0x` and digits
pub record Hexadecimal (text : Text) : Type 0 where
  pub digits : Text
  pub text_is : text ≡ 0x30 ∷ 0x78 ∷ digits
  pub hexadecimal : are_digits 16 digits ≡ true

pub hexadecimal_parts : (text : Text) → is_hexadecimal text ≡ true → Hexadecimal text
hexadecimal_parts (c ∷ d ∷ digits) h =
    let both = and_parts (c == 0x30 && d == 0x78) (are_digits 16 digits) h in
    let begin = and_parts (c == 0x30) (d == 0x78) both.0 in
    record {
      digits = digits;
      text_is = ap (λ c. c ∷ d ∷ digits) (eqb-true c 0x30 begin.0) ∙ ap (λ d. 0x30 ∷ d ∷ digits) (eqb-true d 0x78 begin.1);
      hexadecimal = both.1;
    }
hexadecimal_parts _ h = absurd (true≢false (sym h))

hexadecimal_passes : (text : Text) → is_hexadecimal text ≡ true → Stands text
hexadecimal_passes text h =
    let parts = hexadecimal_parts text h in
    ap (list_all in_plain_number) parts.text_is
    ∙ all_pass (λ c. is_digit c 16) in_plain_number hexadecimal_stands parts.digits (all_digits 16 parts.digits parts.hexadecimal)

-- a number's shape
pub data Shaped (text : Text) : Type 0 where
  integer : are_integer_digits (past_sign text) ≡ true → Shaped text
  based : is_hexadecimal text ≡ true → Shaped text
  float : is_plain_float text ≡ true → Shaped text

pub shaped_stands : (text : Text) → Shaped text → Stands text
shaped_stands text (integer h) = past_sign_stands text (digits_stand (past_sign text) (integer_digits (past_sign text) h))
shaped_stands text (based h) = hexadecimal_passes text h
shaped_stands text (float h) = past_sign_stands text (float_stands (past_sign text) h)

-- ---- beginnings

-- digits round a point
pub record Mantissa (text : Text) : Type 0 where
  pub whole : Text
  pub fraction : Text
  pub text_is : text ≡ whole ++ (0x2E ∷ fraction)
  pub digits : are_digits 10 (whole ++ fraction) ≡ true

pub mantissa_parts : (text : Text) → is_pointed (slice_split is_point text) ≡ true → Mantissa text
mantissa_parts text h = by (slice_split is_point text) refl h
  where
    by : (parts : List Text) → slice_split is_point text ≡ parts → is_pointed parts ≡ true → Mantissa text
    by (whole ∷ fraction ∷ []) is h = found (cut_of is_point text whole (fraction ∷ []) is)
      where
        none : (fraction ∷ []) ≡ [] → ⊥
        none e = cc

        last : (more : Text) → text ≡ whole ++ (0x2E ∷ more) → Cut is_point more fraction [] → Mantissa text
        last more text_is (uncut is none) = record { whole = whole; fraction = fraction; text_is = text_is ∙ ap (λ t. whole ++ (0x2E ∷ t)) is; digits = h }
        last more text_is (cut c later is at others) = absurd (some_part is_point later others)

        found : Cut is_point text whole (fraction ∷ []) → Mantissa text
        found (uncut is other) = absurd (none other)
        found (cut c more text_is at others) =
            last more (text_is ∙ ap (λ d. whole ++ (d ∷ more)) (eqb-true c 0x2E at)) (cut_of is_point more fraction [] others)
    by _ is h = absurd (true≢false (sym h))

-- Such digits, and the text after them.
pub record Pointed (text : Text) : Type 0 where
  pub whole : Text
  pub fraction : Text
  pub rest : Text
  pub text_is : text ≡ whole ++ (0x2E ∷ (fraction ++ rest))
  pub digits : are_digits 10 (whole ++ fraction) ≡ true

pub pointed_parts : (text : Text) → is_float_cut (slice_split is_exponent_letter text) ≡ true → Pointed text
pointed_parts text h = by (slice_split is_exponent_letter text) refl h
  where
    followed : (mantissa rest : Text) → text ≡ mantissa ++ rest → Mantissa mantissa → Pointed text
    followed mantissa rest is parts = record {
      whole = parts.whole;
      fraction = parts.fraction;
      rest = rest;
      text_is = is ∙ ap (λ t. t ++ rest) parts.text_is ∙ append_assoc parts.whole (0x2E ∷ parts.fraction) rest;
      digits = parts.digits;
    }

    first : (mantissa : Text) (others : List Text) → is_pointed (slice_split is_point mantissa) ≡ true → Cut is_exponent_letter text mantissa others
        → Pointed text
    first mantissa others h (uncut is none) = followed mantissa [] (is ∙ sym (append-nil mantissa)) (mantissa_parts mantissa h)
    first mantissa others h (cut c more is at later) = followed mantissa (c ∷ more) is (mantissa_parts mantissa h)

    by : (parts : List Text) → slice_split is_exponent_letter text ≡ parts → is_float_cut parts ≡ true → Pointed text
    by (mantissa ∷ []) is h = first mantissa [] h (cut_of is_exponent_letter text mantissa [] is)
    by (mantissa ∷ exponent ∷ []) is h =
        first mantissa (exponent ∷ []) (and_parts (is_pointed (slice_split is_point mantissa)) (is_signed exponent) h).0
        (cut_of is_exponent_letter text mantissa (exponent ∷ []) is)
    by _ is h = absurd (true≢false (sym h))

-- A digit comes first after a sign or none, or after a point there.
pub data Begins (text : Text) : Type 0 where
  by_digit : (c : ℕ) (rest : Text) → past_sign text ≡ c ∷ rest → is_decimal c ≡ true → Begins text
  by_point : (c : ℕ) (rest : Text) → past_sign text ≡ 0x2E ∷ c ∷ rest → is_decimal c ≡ true → Begins text

first_digit : (c : ℕ) (digits : Text) → are_digits 10 (c ∷ digits) ≡ true → is_decimal c ≡ true
first_digit c digits h = (and_parts (is_decimal c) (list_all is_decimal digits) (all_digits 10 (c ∷ digits) h)).0

integer_begins : (text digits : Text) → past_sign text ≡ digits → are_digits 10 digits ≡ true → Begins text
integer_begins text [] is h = absurd (true≢false (sym h))
integer_begins text (c ∷ digits) is h = by_digit c digits is (first_digit c digits h)

float_begins : (text whole fraction rest : Text) → past_sign text ≡ whole ++ (0x2E ∷ (fraction ++ rest)) → are_digits 10 (whole ++ fraction) ≡ true
    → Begins text
float_begins text [] [] rest is h = absurd (true≢false (sym h))
float_begins text [] (c ∷ fraction) rest is h = by_point c (fraction ++ rest) is (first_digit c fraction h)
float_begins text (c ∷ whole) fraction rest is h = by_digit c (whole ++ (0x2E ∷ (fraction ++ rest))) is (first_digit c (whole ++ fraction) h)

pub shaped_begins : (text : Text) → Shaped text → Begins text
shaped_begins text (integer h) = integer_begins text (past_sign text) refl (integer_digits (past_sign text) h)
shaped_begins text (based h) = let parts = hexadecimal_parts text h in by_digit 0x30 (0x78 ∷ parts.digits) (ap past_sign parts.text_is) refl
shaped_begins text (float h) =
    let parts = pointed_parts (past_sign text) h in float_begins text parts.whole parts.fraction parts.rest parts.text_is parts.digits

-- such a text begins as plain text may
behind_minus : (c : ℕ) (rest : Text) → (c == 45) ≡ false → is_gap c ≡ false → begins_unlike_plain (0x2D ∷ c ∷ rest) ≡ false
behind_minus c rest other gap =
    or_from (begins_like_marker (0x2D ∷ c ∷ rest) || false) (is_gap c)
    (or_from (begins_like_marker (0x2D ∷ c ∷ rest)) false (no_exponent_letter_after c rest other) refl) gap

behind_plus : (rest : Text) → begins_unlike_plain (0x2B ∷ rest) ≡ false
behind_plus rest =
    or_from (begins_like_marker (0x2B ∷ rest) || false) false (or_from (begins_like_marker (0x2B ∷ rest)) false (no_exclamation 0x2B rest refl) refl) refl

behind_point : (c : ℕ) (rest : Text) → is_decimal c ≡ true → begins_unlike_plain (0x2E ∷ c ∷ rest) ≡ false
behind_point c [] digit = refl
behind_point c (d ∷ rest) digit = ap (λ x. x && d == 0x2E || false || false) (digit_unlike c 0x2E refl digit)

pub begins_plainly : (text : Text) → Begins text → (is_empty text ≡ false) × (begins_unlike_plain text ≡ false)
begins_plainly [] (by_digit c rest is digit) = cc
begins_plainly [] (by_point c rest is digit) = cc
begins_plainly (s ∷ text) begins = (refl, by (s == 0x2B) (s == 0x2D) refl refl begins)
  where
    unsigned : (s == 0x2B) ≡ false → (s == 0x2D) ≡ false → past_sign (s ∷ text) ≡ s ∷ text
    unsigned plus hyphen = ap (λ x. if x then text else s ∷ text) (or_from (s == 0x2B) (s == 0x2D) plus hyphen)

    negative : (s == 0x2D) ≡ true → past_sign (s ∷ text) ≡ text
    negative hyphen = ap (λ x. if x then text else s ∷ text) (or_right (s == 0x2B) (s == 0x2D) hyphen)

    by : (plus hyphen : Bool) → (s == 0x2B) ≡ plus → (s == 0x2D) ≡ hyphen → Begins (s ∷ text) → begins_unlike_plain (s ∷ text) ≡ false
    by true hyphen e f begins = ap (λ c. begins_unlike_plain (c ∷ text)) (eqb-true s 0x2B e) ∙ behind_plus text
    by false true e f (by_digit c rest is digit) =
        ap (λ c. begins_unlike_plain (c ∷ text)) (eqb-true s 0x2D f) ∙ ap (λ t. begins_unlike_plain (0x2D ∷ t)) (sym (negative f) ∙ is)
        ∙ behind_minus c rest (digit_unlike c 45 refl digit) (no_harm c (digit_harmless c digit)).gap
    by false true e f (by_point c rest is digit) =
        ap (λ c. begins_unlike_plain (c ∷ text)) (eqb-true s 0x2D f) ∙ ap (λ t. begins_unlike_plain (0x2D ∷ t)) (sym (negative f) ∙ is)
        ∙ behind_minus 0x2E (c ∷ rest) refl refl
    by false false e f (by_digit c rest is digit) = ap begins_unlike_plain (sym (unsigned e f) ∙ is) ∙ begins_as_plain false c rest digit
    by false false e f (by_point c rest is digit) = ap begins_unlike_plain (sym (unsigned e f) ∙ is) ∙ behind_point c rest digit

-- ---- the characters are harmless, and of ASCII

hexadecimal_small : (c : ℕ) → is_digit c 16 ≡ true → c < 128
hexadecimal_small c h = by (nat_lt c 128) refl
  where
    by : (x : Bool) → nat_lt c 128 ≡ x → c < 128
    by true e = ltb-true c 128 e
    by false e =
        let far : is_digit c 16 ≡ false = grind (arith, nat_tests) in
        absurd (true≢false (sym h ∙ far))

among_small : (test : ℕ → Bool) → agree_below (λ c. not (is_digit c 16) || test c) (λ _. true) 128 ≡ true → test 0x2B ≡ true → test 0x2D ≡ true
    → test 0x2E ≡ true → test 0x78 ≡ true → (c : ℕ) → in_plain_number c ≡ true → test c ≡ true
among_small test all plus hyphen point letter c h = by (or_cases (is_digit c 16 || is_plus_or_minus c || is_point c) (c == 0x78) h)
  where
    same : (n : ℕ) → test n ≡ true → (c == n) ≡ true → test c ≡ true
    same n passes e = ap test (eqb-true c n e) ∙ passes

    first : (is_digit c 16 ≡ true) ⊎ (is_plus_or_minus c ≡ true) → test c ≡ true
    first (inl digit) =
        sym (ap (λ x. not x || test c) digit)
        ∙ agree_below_at (λ c. not (is_digit c 16) || test c) (λ _. true) 128 c all (hexadecimal_small c digit)
    first (inr sign) = either (or_cases (c == 0x2B) (c == 0x2D) sign)
      where
        either : ((c == 0x2B) ≡ true) ⊎ ((c == 0x2D) ≡ true) → test c ≡ true
        either (inl e) = same 0x2B plus e
        either (inr e) = same 0x2D hyphen e

    earlier : ((is_digit c 16 || is_plus_or_minus c) ≡ true) ⊎ (is_point c ≡ true) → test c ≡ true
    earlier (inl e) = first (or_cases (is_digit c 16) (is_plus_or_minus c) e)
    earlier (inr e) = same 0x2E point e

    by : ((is_digit c 16 || is_plus_or_minus c || is_point c) ≡ true) ⊎ ((c == 0x78) ≡ true) → test c ≡ true
    by (inl e) = earlier (or_cases (is_digit c 16 || is_plus_or_minus c) (is_point c) e)
    by (inr e) = same 0x78 letter e

pub shaped_harmless : (text : Text) → Shaped text → list_all is_harmless text ≡ true
shaped_harmless text shaped =
    all_pass in_plain_number is_harmless (λ c h. among_small is_harmless refl refl refl refl refl c h) text (shaped_stands text shaped)

pub shaped_ascii : (text : Text) → Shaped text → is_ascii_text text ≡ true
shaped_ascii text shaped =
    all_pass in_plain_number (λ c. nat_lt c 128) (λ c h. among_small (λ c. nat_lt c 128) refl refl refl refl refl c h) text (shaped_stands text shaped)
