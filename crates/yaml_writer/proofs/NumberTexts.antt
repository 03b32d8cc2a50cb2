-- Texts that are numbers of JSON: those of integers and of finite floats.
use Rattle.yaml_base.proofs.Common.{ℕ, ◌<◌, ◌≤◌, Option, None, Some, pos, length, Bool, false, true, [], ◌++◌, ◌∷◌, refl, ◌≡◌, append-nil, append_assoc, ap}
use Rattle.yaml_base.proofs.Common.{sym, ◌∙◌, arith, Text}
use mir.Syntax.{w128}
use Rattle.yaml_writer.specs.NumberParts.{HasNumber}
use Rattle.std.{proofs.Common.FitsSigned, proofs.Common.ap₂, proofs.Common.get_or, proofs.lemmas.Fmt.decimal_by_steps_wide}
use Rattle.std.{proofs.lemmas.Fmt.decimal_is_IsNumeral_wide, proofs.lemmas.Fmt.decimal_digit, proofs.lemmas.List.nil_from_length, specs.Char.digit_value}
use Rattle.std.{specs.Fmt.decimal, specs.Fmt.sign_text, specs.Fmt.signed_decimal, specs.Int.Signed.mag, specs.List.list_all, specs.Str.Parse.AllDigits}
use Rattle.std.proofs.lemmas.Bool.{eqb-true, lt-ltb, and_from, or_right, not_from_false}
use Rattle.std.specs.Prelude.{codes, negsuc, not, suc, zero, ℤ, ◌%◌, ◌&&◌, ◌+◌, ◌/◌, ◌^◌, ◌||◌, if◌then◌else◌, slice_index, ◌==◌}
use Rattle.fast_float.specs.Text.{Parts, exponent_text as printed_exponent}
use Rattle.ryu.specs.Plain.{IsPlain, IsPlainNumber}
use Rattle.yaml_base.{proofs.NumberCuts.some_digits, specs.Words.is_word, specs.values.Resolved.is_decimal, specs.values.Resolved.are_digits}
use Rattle.yaml_base.specs.values.JsonNumbers.{JsonExponent, JsonNumber, is_whole_part, is_json_number, minus, exponent_text, json_text}

-- ---- digits

digits_pass : (digits : Text) → AllDigits 10 digits → list_all is_decimal digits ≡ true
digits_pass [] h = refl
digits_pass (c ∷ digits) h = and_from (is_decimal c) (list_all is_decimal digits) (lt-ltb (digit_value c) 10 h.0) (digits_pass digits h.1)

are_some : (digits : Text) → 0 < length digits → AllDigits 10 digits → are_digits 10 digits ≡ true
are_some [] some h = absurd (omega arith)
are_some (c ∷ digits) some h = some_digits c digits (digits_pass (c ∷ digits) h)

-- Digits of which the first is `0` only if it is alone.
whole_is : (digits : Text) → 0 < length digits → AllDigits 10 digits → (slice_index digits 0 ≡ 48 → length digits ≡ 1) → is_whole_part digits ≡ true
whole_is [] some h lone = absurd (omega arith)
whole_is (c ∷ rest) some h lone =
    and_from (are_digits 10 (c ∷ rest)) (is_word (c ∷ rest) (codes "0") || not (c == 48)) (are_some (c ∷ rest) some h) (by (c == 48) refl)
  where
    none_more : length (c ∷ rest) ≡ 1 → rest ≡ []
    none_more one = nil_from_length rest (omega arith)

    by : (x : Bool) → (c == 48) ≡ x → (is_word (c ∷ rest) (codes "0") || not (c == 48)) ≡ true
    by true e =
        let zero_is = eqb-true c 48 e in
        ap₂ (λ (d : ℕ) (ds : Text). is_word (d ∷ ds) (codes "0") || not (d == 48)) zero_is (none_more (lone zero_is))
    by false e = or_right (is_word (c ∷ rest) (codes "0")) (not (c == 48)) (not_from_false (c == 48) e)

all_true : (a b c : Bool) → a ≡ true → b ≡ true → c ≡ true → (a && b && c) ≡ true
all_true a b c ha hb hc = and_from (a && b) c (and_from a b ha hb) hc

-- ---- integers

first_of : (digits more : Text) → 48 < get_or digits 0 0 → 48 < get_or (digits ++ more) 0 0
first_of [] more h = absurd (omega arith)
first_of (d ∷ digits) more h = h

-- no integer but 0 begins with `0`
pub first_digit : (n : ℕ) → n < 10 ^ 64 → 0 < n → 48 < get_or (decimal n) 0 0
first_digit n h = decimal_by_steps_wide (λ (m : ℕ) (digits : Text). 0 < m → 48 < get_or digits 0 0) one more n h
  where
    one : (m : ℕ) → m < 10 → 0 < m → 48 < get_or ((48 + m) ∷ []) 0 0
    one m small some = omega arith

    more : (m : ℕ) (digits : Text) → 10 ≤ m → (0 < m / 10 → 48 < get_or digits 0 0) → 0 < m → 48 < get_or (digits ++ ((48 + m % 10) ∷ [])) 0 0
    more m digits big before some = first_of digits ((48 + m % 10) ∷ []) (before (omega arith))

lone_zero : (n : ℕ) → n < 10 ^ 64 → slice_index (decimal n) 0 ≡ 48 → length (decimal n) ≡ 1
lone_zero zero h e = ap length (decimal_digit 0 (omega arith))
lone_zero (suc n) h e = let first = first_digit (suc n) h (omega arith) in absurd (omega (arith, first, e))

whole_decimal : (n : ℕ) → n < 10 ^ 64 → is_whole_part (decimal n) ≡ true
whole_decimal n h = let digits = decimal_is_IsNumeral_wide n h in whole_is (decimal n) digits.0.0 digits.0.1 (lone_zero n h)

-- an integer by its sign and its digits
abbrev pub integer : Bool → Text → JsonNumber
integer negative digits = record { negative = negative; whole = digits; fraction = None; exponent = None }

pub valid_integer : (negative : Bool) (n : ℕ) → n < 10 ^ 64 → is_json_number (integer negative (decimal n)) ≡ true
valid_integer negative n h = all_true (is_whole_part (decimal n)) true true (whole_decimal n h) refl refl

nothing_after : (text : Text) → text ≡ text ++ [] ++ []
nothing_after text = sym (append-nil (text ++ []) ∙ append-nil text)

pub has_decimal : (n : ℕ) → n < 10 ^ 64 → HasNumber (decimal n)
has_decimal n h = (
  integer false (decimal n),
  record {
    valid = valid_integer false n h;
    text_is = nothing_after (decimal n);
  },
)

pub has_signed : (z : ℤ) → mag z + 1 < 10 ^ 64 → HasNumber (signed_decimal z)
has_signed (pos n) h = has_decimal n (omega (arith, h))
has_signed (negsuc n) h = (
  integer true (decimal (suc n)),
  record {
    valid = valid_integer true (suc n) (omega (arith, h));
    text_is = nothing_after (45 ∷ decimal (suc n));
  },
)

-- an integer of 128 bits
pub signed_fits : (z : ℤ) → FitsSigned w128 z → mag z + 1 < 10 ^ 64
signed_fits (pos n) fits = omega (arith, fits)
signed_fits (negsuc n) fits = omega (arith, fits)

-- ---- finite floats

abbrev exponent_of : Bool → Text → Option JsonExponent
exponent_of negative [] = None
exponent_of negative (d ∷ digits) = Some (record { capital = false; sign = if negative then Some true else None; digits = d ∷ digits })

abbrev fraction_of : Bool → Text → Option Text
fraction_of point digits = if point then Some digits else None

-- the number of a sign and of printed parts
abbrev number_of : Bool → Parts → JsonNumber
number_of negative p =
    record { negative = negative; whole = p.whole; fraction = fraction_of p.point p.fraction; exponent = exponent_of p.exponent_negative p.exponent }

exponent_same : (negative : Bool) (digits : Text) → printed_exponent negative digits ≡ exponent_text (exponent_of negative digits)
exponent_same negative [] = refl
exponent_same true (d ∷ digits) = refl
exponent_same false (d ∷ digits) = refl

regroup : (a b c d : Text) → a ++ (b ++ (c ++ d)) ≡ a ++ b ++ c ++ d
regroup a b c d = sym (append_assoc (a ++ b) c d ∙ append_assoc a b (c ++ d))

text_same : (negative point : Bool) (whole fraction printed : Text) (exponent : Option JsonExponent) → printed ≡ exponent_text exponent
    → sign_text negative ++ (whole ++ ((if point then 46 ∷ fraction else []) ++ printed))
    ≡ json_text (record { negative = negative; whole = whole; fraction = fraction_of point fraction; exponent = exponent })
text_same negative true whole fraction printed exponent same =
    regroup (minus negative) whole (46 ∷ fraction) printed ∙ ap (λ (e : Text). minus negative ++ whole ++ (46 ∷ fraction) ++ e) same
text_same negative false whole fraction printed exponent same =
    regroup (minus negative) whole [] printed ∙ ap (λ (e : Text). minus negative ++ whole ++ [] ++ e) same

valid_is : (negative point exponent_negative : Bool) (whole fraction exponent : Text) → is_whole_part whole ≡ true
    → (point ≡ true → 0 < length fraction) → AllDigits 10 fraction → AllDigits 10 exponent
    → is_json_number
    (record { negative = negative; whole = whole; fraction = fraction_of point fraction; exponent = exponent_of exponent_negative exponent }) ≡ true
valid_is negative true en whole fraction [] is some digits power =
    all_true (is_whole_part whole) (are_digits 10 fraction) true is (are_some fraction (some refl) digits) refl
valid_is negative true en whole fraction (d ∷ ds) is some digits power =
    all_true (is_whole_part whole) (are_digits 10 fraction) (are_digits 10 (d ∷ ds)) is (are_some fraction (some refl) digits)
    (are_some (d ∷ ds) (omega arith) power)
valid_is negative false en whole fraction [] is some digits power = all_true (is_whole_part whole) true true is refl refl
valid_is negative false en whole fraction (d ∷ ds) is some digits power =
    all_true (is_whole_part whole) true (are_digits 10 (d ∷ ds)) is refl (are_some (d ∷ ds) (omega arith) power)

plain_valid : (negative : Bool) (p : Parts) → IsPlain p → is_json_number (number_of negative p) ≡ true
plain_valid negative p plain =
    valid_is negative p.point p.exponent_negative p.whole p.fraction p.exponent
    (whole_is p.whole plain.whole plain.well_formed.whole_digits plain.no_leading_zero) plain.fraction plain.well_formed.fraction_digits
    plain.well_formed.exponent_digits

pub has_plain : (text : Text) → IsPlainNumber text → HasNumber text
has_plain text h = (
  number_of h.0 h.1,
  record {
    valid = plain_valid h.0 h.1 h.3;
    text_is =
        h.2
        ∙ text_same h.0 h.1.point h.1.whole h.1.fraction (printed_exponent h.1.exponent_negative h.1.exponent)
        (exponent_of h.1.exponent_negative h.1.exponent) (exponent_same h.1.exponent_negative h.1.exponent);
  },
)
