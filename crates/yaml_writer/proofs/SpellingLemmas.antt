-- The characters of a number's text and of its spelling are ASCII, so by bytes and by characters they are the same; and when text and
-- spelling are the same.
use Rattle.yaml_writer.proofs.Common.{ℕ, if◌then◌else◌, ◌==◌, is_some, Option, None, Some, codes, nat_lt, length, Bool, false, not, true, ◌&&◌, ◌||◌, List, []}
use Rattle.yaml_writer.proofs.Common.{◌++◌, ◌∷◌, refl, ◌≡◌, ltb-true, true≢false, append-nil, append_assoc, ap, sym, ◌∙◌, arith, and_parts, and_from, list_all}
use Rattle.yaml_writer.proofs.Common.{list_all-append, encodes-chars, digit_from_value, digit_value, IsUtf8, encode_utf8_all, Text, is_word, JsonExponent}
use Rattle.yaml_writer.proofs.Common.{JsonNumber, is_json_number, minus, exponent_text, json_text, fraction_or_default, is_json_integer, exponent_spelled}
use Rattle.yaml_writer.proofs.Common.{yaml_number, is_decimal, first_meets, are_digits, IsNumber, IsNoNumber, is_fraction, is_exponent, is_spelled}
use Rattle.std.{proofs.lemmas.Bool.lt-ltb, proofs.lemmas.Str.encodes-IsAscii, proofs.lemmas.Str.chars-IsAscii, specs.Str.chars}
use Rattle.yaml_base.{proofs.AsciiWords.is_ascii_text, proofs.AsciiWords.ascii_of, specs.values.JsonNumbers.exponent_negative}
use Rattle.yaml_writer.{proofs.ValidNumbers.Valid, proofs.ValidNumbers.valid_parts, specs.Spellings.is_spelled_exponent}

-- Characters

-- a test that digits and the signs of numbers pass
pub record PassesNumbers (test : ℕ → Bool) : Type 0 where
  pub digit : (c : ℕ) → is_decimal c ≡ true → test c ≡ true
  pub minus_sign : test 0x2D ≡ true
  pub plus_sign : test 0x2B ≡ true
  pub point : test 0x2E ≡ true
  pub small : test 0x65 ≡ true
  pub capital : test 0x45 ≡ true

-- the whole part of a number is digits
pub whole_digits : (number : JsonNumber) → is_json_number number ≡ true → are_digits 10 number.whole ≡ true
whole_digits number h =
    (and_parts (are_digits 10 number.whole) (is_word number.whole (codes "0") || not (first_meets (λ c. c == 0x30) number.whole))
    (valid_parts number h).whole).0

module _ (test : ℕ → Bool) (passes : PassesNumbers test) where
  one_passes : (c : ℕ) (rest : Text) → test c ≡ true → list_all test rest ≡ true → list_all test (c ∷ rest) ≡ true
  one_passes c rest h g = and_from (test c) (list_all test rest) h g

  both_pass : (text rest : Text) → list_all test text ≡ true → list_all test rest ≡ true → list_all test (text ++ rest) ≡ true
  both_pass text rest h g = list_all-append test text rest ∙ and_from (list_all test text) (list_all test rest) h g

  digits_pass : (digits : Text) → list_all is_decimal digits ≡ true → list_all test digits ≡ true
  digits_pass [] h = refl
  digits_pass (c ∷ digits) h =
      let both = and_parts (is_decimal c) (list_all is_decimal digits) h in
      one_passes c digits (passes.digit c both.0) (digits_pass digits both.1)

  some_pass : (digits : Text) → are_digits 10 digits ≡ true → list_all test digits ≡ true
  some_pass digits h = digits_pass digits (and_parts (not (length digits == 0)) (list_all is_decimal digits) h).1

  minus_passes : (negative : Bool) → list_all test (minus negative) ≡ true
  minus_passes true = one_passes 0x2D [] passes.minus_sign refl
  minus_passes false = refl

  fraction_passes : (fraction : Option Text) → is_fraction fraction ≡ true
      → list_all test (elim fraction as (λ _. Text) [ None ↦ [] | Some digits ↦ codes "." ++ digits ]) ≡ true
  fraction_passes None h = refl
  fraction_passes (Some digits) h = one_passes 0x2E digits passes.point (some_pass digits h)

  fraction_or_passes : (fraction : Option Text) → is_fraction fraction ≡ true
      → list_all test (elim fraction as (λ _. Text) [ None ↦ codes "0" | Some digits ↦ digits ]) ≡ true
  fraction_or_passes None h = one_passes 0x30 [] (passes.digit 0x30 refl) refl
  fraction_or_passes (Some digits) h = some_pass digits h

  exponent_passes : (exponent : Option JsonExponent) → is_exponent exponent ≡ true → list_all test (exponent_text exponent) ≡ true
  exponent_passes None h = refl
  exponent_passes (Some exponent) h = by exponent.capital exponent.sign
    where
      digits : Text
      digits = exponent.digits

      signed : (sign : ℕ) → test sign ≡ true → list_all test (sign ∷ digits) ≡ true
      signed sign g = one_passes sign digits g (some_pass digits h)

      by : (a : Bool) (s : Option Bool) → list_all test (exponent_text (Some (record { capital = a; sign = s; digits = digits }))) ≡ true
      by true None = signed 0x45 passes.capital
      by true (Some true) = one_passes 0x45 (0x2D ∷ digits) passes.capital (signed 0x2D passes.minus_sign)
      by true (Some false) = one_passes 0x45 (0x2B ∷ digits) passes.capital (signed 0x2B passes.plus_sign)
      by false None = signed 0x65 passes.small
      by false (Some true) = one_passes 0x65 (0x2D ∷ digits) passes.small (signed 0x2D passes.minus_sign)
      by false (Some false) = one_passes 0x65 (0x2B ∷ digits) passes.small (signed 0x2B passes.plus_sign)

  spelled_passes : (exponent : Option JsonExponent) → is_exponent exponent ≡ true → list_all test (exponent_spelled exponent) ≡ true
  spelled_passes None h = refl
  spelled_passes (Some exponent) h = by (exponent_negative exponent)
    where
      signed : (sign : ℕ) → test sign ≡ true → list_all test (0x65 ∷ sign ∷ exponent.digits) ≡ true
      signed sign g = one_passes 0x65 (sign ∷ exponent.digits) passes.small (one_passes sign exponent.digits g (some_pass exponent.digits h))

      by : (x : Bool) → list_all test (codes "e" ++ (if x then codes "-" else codes "+") ++ exponent.digits) ≡ true
      by true = signed 0x2D passes.minus_sign
      by false = signed 0x2B passes.plus_sign

  -- a number's text
  pub text_passes : (number : JsonNumber) → is_json_number number ≡ true → list_all test (json_text number) ≡ true
  text_passes number h =
      let valid = valid_parts number h in
      let fraction : Text = elim number.fraction as (λ _. Text) [ None ↦ [] | Some digits ↦ codes "." ++ digits ] in
      both_pass (minus number.negative ++ number.whole ++ fraction) (exponent_text number.exponent)
      (both_pass (minus number.negative ++ number.whole) fraction
      (both_pass (minus number.negative) number.whole (minus_passes number.negative) (some_pass number.whole (whole_digits number h)))
      (fraction_passes number.fraction valid.fraction))
      (exponent_passes number.exponent valid.exponent)

  -- and its spelling
  pub spelling_passes : (number : JsonNumber) → is_json_number number ≡ true → list_all test (yaml_number number) ≡ true
  spelling_passes number h =
      both_pass (minus number.negative ++ number.whole) (if is_json_integer number then [] else after)
      (both_pass (minus number.negative) number.whole (minus_passes number.negative) (some_pass number.whole (whole_digits number h)))
      (by (is_json_integer number))
    where
      valid : Valid number
      valid = valid_parts number h

      after : Text
      after = codes "." ++ fraction_or_default (codes "0") number ++ exponent_spelled number.exponent

      by : (x : Bool) → list_all test (if x then [] else after) ≡ true
      by true = refl
      by false =
          both_pass (codes "." ++ fraction_or_default (codes "0") number) (exponent_spelled number.exponent)
          (one_passes 0x2E (fraction_or_default (codes "0") number) passes.point (fraction_or_passes number.fraction valid.fraction))
          (spelled_passes number.exponent valid.exponent)

-- ASCII

digit_ascii : (c : ℕ) → is_decimal c ≡ true → nat_lt c 128 ≡ true
digit_ascii c h = let within = digit_from_value c (ltb-true (digit_value c) 10 h) in lt-ltb c 128 (omega (arith, within))

ascii_passes : PassesNumbers (λ b. nat_lt b 128)
ascii_passes = record { digit = digit_ascii; minus_sign = refl; plus_sign = refl; point = refl; small = refl; capital = refl }

text_ascii : (number : JsonNumber) → is_json_number number ≡ true → is_ascii_text (json_text number) ≡ true
text_ascii number h = text_passes (λ b. nat_lt b 128) ascii_passes number h

spelling_ascii : (number : JsonNumber) → is_json_number number ≡ true → is_ascii_text (yaml_number number) ≡ true
spelling_ascii number h = spelling_passes (λ b. nat_lt b 128) ascii_passes number h

-- By bytes and by characters

pub number_by_chars : (bytes : List ℕ) (number : JsonNumber) → IsNumber bytes number → IsNumber (chars bytes) number
number_by_chars bytes number is = record {
  valid = is.valid;
  text_is = ap chars is.text_is ∙ chars-IsAscii (json_text number) (ascii_of (json_text number) (text_ascii number is.valid));
}

number_by_bytes : (bytes : List ℕ) (number : JsonNumber) → IsUtf8 bytes → IsNumber (chars bytes) number → IsNumber bytes number
number_by_bytes bytes number utf8 is = record {
  valid = is.valid;
  text_is =
      sym (encodes-chars bytes utf8) ∙ ap encode_utf8_all is.text_is
      ∙ encodes-IsAscii (json_text number) (ascii_of (json_text number) (text_ascii number is.valid));
}

-- a text that is no number by its bytes is none
pub none_by_chars : (bytes : List ℕ) → IsUtf8 bytes → IsNoNumber bytes → IsNoNumber (chars bytes)
none_by_chars bytes utf8 none number is = none number (number_by_bytes bytes number utf8 is)

-- the bytes of a number's spelling are its characters
pub spelling_chars : (bytes : List ℕ) (number : JsonNumber) → is_json_number number ≡ true → bytes ≡ yaml_number number → chars bytes ≡ yaml_number number
spelling_chars bytes number valid e = ap chars e ∙ chars-IsAscii (yaml_number number) (ascii_of (yaml_number number) (spelling_ascii number valid))

-- Unchanged spellings

same_exponent : (exponent : Option JsonExponent) → is_spelled_exponent exponent ≡ true → exponent_spelled exponent ≡ exponent_text exponent
same_exponent None h = refl
same_exponent (Some exponent) h = by exponent.capital exponent.sign h
  where
    by : (a : Bool) (s : Option Bool) → (not a && is_some s) ≡ true
        → exponent_spelled (Some (record { capital = a; sign = s; digits = exponent.digits }))
        ≡ exponent_text (Some (record { capital = a; sign = s; digits = exponent.digits }))
    by false (Some true) g = refl
    by false (Some false) g = refl
    by _ _ g = absurd (true≢false (sym g))

same_parts : (negative : Bool) (whole : Text) (fraction : Option Text) (exponent : Option JsonExponent)
    → is_spelled (record { negative = negative; whole = whole; fraction = fraction; exponent = exponent }) ≡ true
    → yaml_number (record { negative = negative; whole = whole; fraction = fraction; exponent = exponent })
    ≡ json_text (record { negative = negative; whole = whole; fraction = fraction; exponent = exponent })
same_parts negative whole (Some fraction) exponent h =
    ap (λ t. minus negative ++ whole ++ (codes "." ++ fraction ++ t)) (same_exponent exponent h)
    ∙ sym (append_assoc (minus negative ++ whole) (codes "." ++ fraction) (exponent_text exponent))
same_parts negative whole None (Some exponent) h = absurd (true≢false (sym h))
same_parts negative whole None None h = by (negative && is_word whole (codes "0")) h
  where
    by : (x : Bool) → (not x || false) ≡ true
        → (minus negative ++ whole ++ (if not x then [] else codes "." ++ codes "0" ++ [])) ≡ minus negative ++ whole ++ [] ++ []
    by true g = absurd (true≢false (sym g))
    by false g = sym (append-nil (minus negative ++ whole ++ []))

-- A number that is in its spelling is its own spelling.
pub same_spelling : (number : JsonNumber) → is_spelled number ≡ true → yaml_number number ≡ json_text number
same_spelling number h = same_parts number.negative number.whole number.fraction number.exponent h
