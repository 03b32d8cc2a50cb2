-- A number's spelling, cut as the schemas cut it: after its sign, at its point, at its exponent.
use Rattle.yaml_base.proofs.Common.{or_parts}
use Rattle.yaml_base.proofs.Common.{suc, ℕ, if◌then◌else◌, ⊤, ◌==◌, Option, None, Some, codes, length, Bool, false, not, true, ◌||◌, List, [], ◌++◌, ◌∷◌, refl}
use Rattle.yaml_base.proofs.Common.{◌≡◌, eqb-true, ne_eqb, append-nil, ap, ◌∙◌, arith, and_parts, and_from, and_left, or_from, or_left, not_from_false}
use Rattle.yaml_base.proofs.Common.{false≢true, slice_split-cons_yes, take_while-cons, list_all, slice_split, take_while, Text, named, JsonExponent, minus}
use Rattle.yaml_base.proofs.Common.{exponent_negative, exponent_spelled, Resolved, words_of_core, words_of_11, is_point, is_exponent_letter, is_plus_or_minus}
use Rattle.yaml_base.proofs.Common.{is_decimal, first_meets, past_sign, is_negative, are_digits, is_underscore, ungrouped, are_grouped, is_hyphen, is_date}
use Rattle.std.{specs.Char.is_digit, proofs.lemmas.List.Elements.All-cons, proofs.lemmas.List.Elements.All-append, specs.List.All}
use Rattle.std.proofs.lemmas.List.Splits.{slice_split_none, slice_split_at}
use Rattle.yaml_base.proofs.{Common.in_date, Common.timestamp_11, SchemaWords.named_unlike, AllPass.all_pass, AllPass.uncut_by}

-- Digits

-- a digit isn't a character that is none
pub digit_unlike : (c n : ℕ) → is_decimal n ≡ false → is_decimal c ≡ true → (c == n) ≡ false
digit_unlike c n other digit = grind (arith, false≢true, eqb-true)

digit_no_point : (c : ℕ) → is_decimal c ≡ true → is_point c ≡ false
digit_no_point c digit = digit_unlike c 0x2E refl digit

digit_no_exponent_letter : (c : ℕ) → is_decimal c ≡ true → is_exponent_letter c ≡ false
digit_no_exponent_letter c digit = or_from (c == 0x65) (c == 0x45) (digit_unlike c 0x65 refl digit) (digit_unlike c 0x45 refl digit)

digit_no_sign : (c : ℕ) → is_decimal c ≡ true → is_plus_or_minus c ≡ false
digit_no_sign c digit = or_from (c == 0x2B) (c == 0x2D) (digit_unlike c 0x2B refl digit) (digit_unlike c 0x2D refl digit)

digit_no_hyphen : (c : ℕ) → is_decimal c ≡ true → is_hyphen c ≡ false
digit_no_hyphen c digit = digit_unlike c 0x2D refl digit

-- one digit or more
pub some_digits : (c : ℕ) (digits : Text) → list_all is_decimal (c ∷ digits) ≡ true → are_digits 10 (c ∷ digits) ≡ true
some_digits c digits h =
    and_from (not (length (c ∷ digits) == 0)) (list_all is_decimal (c ∷ digits)) (not_from_false _ (ne_eqb (suc (length digits)) 0 (λ e. omega arith))) h

-- digits are grouped, and have no underscore
pub digits_grouped : (digits : Text) → list_all is_decimal digits ≡ true → are_grouped 10 digits ≡ true
digits_grouped digits h = all_pass is_decimal (λ c. is_digit c 10 || is_underscore c) (λ c e. or_left (is_decimal c) _ e) digits h

pub digits_ungrouped : (digits : Text) → list_all is_decimal digits ≡ true → ungrouped digits ≡ digits
digits_ungrouped [] h = refl
digits_ungrouped (c ∷ digits) h = grind (arith, and_parts, and_from, or_parts, or_from, digit_unlike, digits_ungrouped digits)

-- Cuts

-- digits aren't cut
pub uncut : (sign : ℕ → Bool) → ((c : ℕ) → is_decimal c ≡ true → sign c ≡ false) → (digits : Text) → list_all is_decimal digits ≡ true
    → slice_split sign digits ≡ digits ∷ []
uncut sign other digits h = slice_split_none sign digits (uncut_by is_decimal sign other digits h)

pub no_point : (digits : Text) → list_all is_decimal digits ≡ true → slice_split is_point digits ≡ digits ∷ []
no_point digits h = uncut is_point digit_no_point digits h

pub no_exponent : (digits : Text) → list_all is_decimal digits ≡ true → slice_split is_exponent_letter digits ≡ digits ∷ []
no_exponent digits h = uncut is_exponent_letter digit_no_exponent_letter digits h

-- digits with a point among them are cut there
pub at_point : (whole fraction : Text) → list_all is_decimal whole ≡ true → list_all is_decimal fraction ≡ true
    → slice_split is_point (whole ++ (codes "." ++ fraction)) ≡ whole ∷ fraction ∷ []
at_point whole fraction h g =
    slice_split_at is_point whole 0x2E fraction (uncut_by _ _ digit_no_point whole h) refl ∙ ap (λ parts. whole ∷ parts) (no_point _ g)

-- the mantissa of a spelling
abbrev pub mantissa_of : (whole fraction : Text) → Text
mantissa_of whole fraction = whole ++ (codes "." ++ fraction)

-- the text after the `e`
abbrev pub exponent_parts : Option JsonExponent → List Text
exponent_parts None = []
exponent_parts (Some exponent) = ((if exponent_negative exponent then codes "-" else codes "+") ++ exponent.digits) ∷ []

-- digits follow the `e`, if there is one
abbrev pub HasDigits : Option JsonExponent → Type 0
HasDigits None = ⊤
HasDigits (Some exponent) = are_digits 10 exponent.digits ≡ true

no_exponent_letter_in_mantissa : (whole fraction : Text) → list_all is_decimal whole ≡ true → list_all is_decimal fraction ≡ true
    → All (λ c. is_exponent_letter c ≡ false) (mantissa_of whole fraction)
no_exponent_letter_in_mantissa whole fraction h g =
    All-append (λ c. is_exponent_letter c ≡ false) whole (codes "." ++ fraction) (uncut_by is_decimal is_exponent_letter digit_no_exponent_letter whole h)
    (All-cons (λ c. is_exponent_letter c ≡ false) 0x2E fraction refl (uncut_by is_decimal is_exponent_letter digit_no_exponent_letter fraction g))

-- a spelling with a point is cut at its `e`
pub at_exponent : (whole fraction : Text) (exponent : Option JsonExponent) → list_all is_decimal whole ≡ true → list_all is_decimal fraction ≡ true
    → HasDigits exponent
    → slice_split is_exponent_letter (mantissa_of whole fraction ++ exponent_spelled exponent) ≡ mantissa_of whole fraction ∷ exponent_parts exponent
at_exponent whole fraction None h g e = grind (arith, append-nil, slice_split_none, no_exponent_letter_in_mantissa)
at_exponent whole fraction (Some exponent) h g e = by (exponent_negative exponent)
  where
    digits : list_all is_decimal exponent.digits ≡ true
    digits = (and_parts (not (length exponent.digits == 0)) (list_all is_decimal exponent.digits) e).1

    signed_uncut : (sign : ℕ) → is_exponent_letter sign ≡ false → slice_split is_exponent_letter (sign ∷ exponent.digits) ≡ (sign ∷ exponent.digits) ∷ []
    signed_uncut sign other =
        slice_split_none is_exponent_letter (sign ∷ exponent.digits)
        (All-cons (λ c. is_exponent_letter c ≡ false) sign exponent.digits other
        (uncut_by is_decimal is_exponent_letter digit_no_exponent_letter exponent.digits digits))

    prefix : (sign : ℕ) → is_exponent_letter sign ≡ false
        → slice_split is_exponent_letter (mantissa_of whole fraction ++ 0x65 ∷ sign ∷ exponent.digits)
        ≡ mantissa_of whole fraction ∷ (sign ∷ exponent.digits) ∷ []
    prefix sign other =
        slice_split_at is_exponent_letter (mantissa_of whole fraction) 0x65 (sign ∷ exponent.digits) (no_exponent_letter_in_mantissa whole fraction h g) refl
        ∙ ap (λ parts. mantissa_of whole fraction ∷ parts) (signed_uncut sign other)

    by : (x : Bool) → slice_split is_exponent_letter (mantissa_of whole fraction ++ (codes "e" ++ (if x then codes "-" else codes "+") ++ exponent.digits))
        ≡ mantissa_of whole fraction ∷ ((if x then codes "-" else codes "+") ++ exponent.digits) ∷ []
    by true = prefix 0x2D refl
    by false = prefix 0x2B refl

-- Signs

-- a number past its sign
pub past_minus : (negative : Bool) (c : ℕ) (rest : Text) → is_decimal c ≡ true → past_sign (minus negative ++ (c ∷ rest)) ≡ c ∷ rest
past_minus true c rest h = refl
past_minus false c rest h = ap (λ x. if x then rest else c ∷ rest) (digit_no_sign c h)

-- and its sign
pub minus_read : (negative : Bool) (c : ℕ) (rest : Text) → is_decimal c ≡ true → is_negative (minus negative ++ (c ∷ rest)) ≡ negative
minus_read true c rest h = refl
minus_read false c rest h = digit_no_hyphen c h

-- Words and dates

-- no digit is first, after a sign or none
abbrev begins_otherwise : Text → Bool
begins_otherwise text = not (first_meets is_decimal (past_sign text))

-- a number is no word of a schema
pub no_word : (table : List (Text × Resolved)) (negative : Bool) (c : ℕ) (rest : Text) → list_all (λ entry. begins_otherwise entry.0) table ≡ true
    → is_decimal c ≡ true → named table (minus negative ++ (c ∷ rest)) ≡ None
no_word table negative c rest all h =
    named_unlike _ table _ all (ap (λ text. not (first_meets is_decimal text)) (past_minus negative c rest h) ∙ ap not h)

pub no_word_of_core : (negative : Bool) (c : ℕ) (rest : Text) → is_decimal c ≡ true → named words_of_core (minus negative ++ (c ∷ rest)) ≡ None
no_word_of_core negative c rest h = no_word words_of_core negative c rest refl h

pub no_word_of_11 : (negative : Bool) (c : ℕ) (rest : Text) → is_decimal c ≡ true → named words_of_11 (minus negative ++ (c ∷ rest)) ≡ None
no_word_of_11 negative c rest h = no_word words_of_11 negative c rest refl h

-- if digits are followed by a character that no date holds, these digits are its date part
date_prefix : (digits rest : Text) → list_all is_decimal digits ≡ true → first_meets in_date rest ≡ false → take_while in_date (digits ++ rest) ≡ digits
date_prefix [] [] h g = refl
date_prefix [] (c ∷ rest) h g = take_while-cons in_date c rest ∙ ap (λ x. if x then c ∷ take_while in_date rest else []) g
date_prefix (c ∷ digits) rest h g =
    let both : (is_decimal c ≡ true) × (list_all is_decimal digits ≡ true) = and_parts (is_decimal c) (list_all is_decimal digits) h in
    take_while-cons in_date c (digits ++ rest)
    ∙ ap (λ x. if x then c ∷ take_while in_date (digits ++ rest) else []) (or_left (is_decimal c) (is_hyphen c) both.0)
    ∙ ap (λ text. c ∷ text) (date_prefix digits rest both.1 g)

-- a cut of two parts or fewer is no date
abbrev Short : List Text → Type 0
Short parts = (least : ℕ) → is_date least parts ≡ false

short_prefix : (negative : Bool) (digits rest : Text) → list_all is_decimal digits ≡ true → first_meets in_date rest ≡ false
    → Short (slice_split is_hyphen (take_while in_date (minus negative ++ (digits ++ rest))))
short_prefix true digits rest h g least = grind (arith, take_while-cons, date_prefix, slice_split-cons_yes, uncut, digit_no_hyphen)
short_prefix false digits rest h g least = grind (arith, date_prefix, uncut, digit_no_hyphen)

-- a number is no timestamp
pub no_timestamp : (negative : Bool) (digits rest : Text) → list_all is_decimal digits ≡ true → first_meets in_date rest ≡ false
    → timestamp_11 (minus negative ++ (digits ++ rest)) ≡ None
no_timestamp negative digits rest h g = grind (arith, or_from, and_left, short_prefix)
