-- The first character of a text.
use Rattle.yaml_read.proofs.Common.{ℕ, ◌/◌, ◌%◌, ◌<◌, ◌≤◌, Bool, true, None, Some, List, [], ◌∷◌, ◌++◌, refl, ◌≡◌, sym, ◌∙◌, length, Text, nat_le, false}
use Rattle.yaml_read.proofs.Common.{length-append, encode_utf8_all, if◌then◌else◌, short_escapes, escape_after_backslash, Option, arith, nat_tests, encode_utf8}
use Rattle.yaml_read.proofs.Common.{all_scalars, hex_digit, hex_digits, true≢false, letter_among, needs_escape, letter_meaning, encode_same}
use Rattle.yaml_base.proofs.Common.{length-encode, len_utf8_bounds, leb-true}
use Rattle.yaml_read.proofs.Escapes.{letter_reads, short_number}

-- the first character, and what follows it
pub first_is : (bytes rest : List ℕ) (c d : ℕ) (text : Text) → bytes ≡ encode_utf8 c ++ rest → bytes ≡ encode_utf8_all (d ∷ text)
    → (c ≡ d) × (rest ≡ encode_utf8_all text)
first_is bytes rest c d text is also = encode_same c d rest (encode_utf8_all text) (sym is ∙ also)

-- a text that begins with a character isn't empty
pub not_empty : (bytes : List ℕ) (d : ℕ) (text : Text) → bytes ≡ encode_utf8_all (d ∷ text) → length bytes ≡ 0 → ⊥
not_empty bytes d text is none = grind (arith, length, length-append, encode_utf8, encode_utf8_all, length-encode, len_utf8_bounds)

-- ---- digits

pub four_text : (n : ℕ) (rest : Text) → hex_digits 4 n ++ rest ≡ hex_digits 2 (n / 256) ++ (hex_digits 2 (n % 256) ++ rest)
four_text n rest = grind (arith, hex_digit)

-- ---- escapes

-- the meaning of an escape's first character
pub data AfterBackslash (c : ℕ) : Text → Type 0 where
  by_letter : (letter : ℕ) → letter_meaning letter ≡ Some c → AfterBackslash c (letter ∷ [])
  by_two : letter_among short_escapes c ≡ None → c < 256 → AfterBackslash c (120 ∷ hex_digits 2 c)
  by_four : letter_among short_escapes c ≡ None → 256 ≤ c → c < 65536 → AfterBackslash c (117 ∷ hex_digits 4 c)

pub after_backslash : (c : ℕ) → all_scalars (c ∷ []) ≡ true → needs_escape true c ≡ true
    → AfterBackslash c (escape_after_backslash (letter_among short_escapes c) c)
after_backslash c scalar needs = by (letter_among short_escapes c) refl
  where
    number : (two four : Bool) → letter_among short_escapes c ≡ None → nat_le c 0xFF ≡ two → nat_le c 0xFFFF ≡ four
        → AfterBackslash c (if two then 120 ∷ hex_digits 2 c else (if four then 117 ∷ hex_digits 4 c else 85 ∷ hex_digits 8 c))
    number true four none is_two is_four = by_two none (let le : c ≤ 0xFF = leb-true c 0xFF is_two in omega arith)
    number false true none is_two is_four = by_four none (grind (arith, nat_tests, is_two)) (let le : c ≤ 0xFFFF = leb-true c 0xFFFF is_four in omega arith)
    number false false none is_two is_four =
        let few : c < 65536 = short_number c scalar needs in
        absurd (true≢false (sym (grind (arith, nat_tests, few)) ∙ is_four))

    by : (o : Option ℕ) → letter_among short_escapes c ≡ o → AfterBackslash c (escape_after_backslash o c)
    by (Some letter) is = by_letter letter (letter_reads c letter is)
    by None is = number (nat_le c 0xFF) (nat_le c 0xFFFF) is refl refl
