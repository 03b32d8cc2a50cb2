-- An escape is short, of ASCII, and holds no break.
use Rattle.yaml_scalar.proofs.Common.{suc, zero, ℕ, ◌%◌, ◌/◌, ◌≤◌, if◌then◌else◌, Option, Some, nat_le, nat_lt, length, Bool, false, not, true}
use Rattle.yaml_scalar.proofs.Common.{◌&&◌, List, [], ◌∷◌, refl, ◌≡◌, arith, and_parts, and_from, or_from, agree_below_at, not-true, list_all-append, nat_tests}
use Rattle.yaml_scalar.proofs.Common.{list_all, list_any, IsAscii, Text, is_break, hex_digit, hex_digits, ShortEscape, short_escapes, letter_among}
use Rattle.yaml_scalar.proofs.Common.{escape_after_backslash, escape_text, is_unbroken_ascii}
use Rattle.yaml_base.proofs.Common.{ltb-true}

pub plain-unbroken : (text : Text) → list_all is_unbroken_ascii text ≡ true → list_any is_break text ≡ false
plain-unbroken [] h = refl
plain-unbroken (b ∷ rest) h = grind (arith, nat_tests, and_parts, is_unbroken_ascii, list_all, nat_lt, not, is_break, or_from, not-true, plain-unbroken rest)

pub plain-ascii : (text : Text) → list_all is_unbroken_ascii text ≡ true → IsAscii text
plain-ascii [] h i = omega arith
plain-ascii (b ∷ rest) h zero = grind (arith, and_parts, ltb-true)
plain-ascii (b ∷ rest) h (suc i) = plain-ascii rest (and_parts (is_unbroken_ascii b) (list_all is_unbroken_ascii rest) h).1 i

abbrev letters_plain : List ShortEscape → Bool
letters_plain [] = true
letters_plain (entry ∷ more) = is_unbroken_ascii entry.letter && letters_plain more

letter-here : (entry : ShortEscape) (other : Option ℕ) (letter : ℕ) (b : Bool) → is_unbroken_ascii entry.letter ≡ true
    → (other ≡ Some letter → is_unbroken_ascii letter ≡ true)
    → (if b then Some entry.letter else other) ≡ Some letter → is_unbroken_ascii letter ≡ true
letter-here entry other letter b here later h = grind (arith, nat_tests)

letter-found : (table : List ShortEscape) (c letter : ℕ) → letters_plain table ≡ true → letter_among table c ≡ Some letter → is_unbroken_ascii letter ≡ true
letter-found [] c letter h found = cc
letter-found (entry ∷ more) c letter h found =
    grind (arith, nat_tests, and_parts, is_unbroken_ascii, letters_plain, letter-here, letter_among, letter-found more c letter)

digit-plain : (n : ℕ) → is_unbroken_ascii (hex_digit (n % 16)) ≡ true
digit-plain n = agree_below_at (λ d. is_unbroken_ascii (hex_digit d)) (λ d. true) 16 (n % 16) refl (omega arith)

digits-plain : (count n : ℕ) → list_all is_unbroken_ascii (hex_digits count n) ≡ true
digits-plain zero n = refl
digits-plain (suc count) n = grind (arith, list_all-append, and_from, digit-plain, digits-plain count (n / 16))

abbrev number_text : (two four : Bool) → ℕ → Text
number_text two four c = if two then 120 ∷ hex_digits 2 c else (if four then 117 ∷ hex_digits 4 c else 85 ∷ hex_digits 8 c)

number-plain : (c : ℕ) (two four : Bool) → list_all is_unbroken_ascii (number_text two four c) ≡ true
number-plain c true four = digits-plain 2 c
number-plain c false true = digits-plain 4 c
number-plain c false false = digits-plain 8 c

number-short : (c : ℕ) (two four : Bool) → length (number_text two four c) ≤ 9
number-short c two four = grind (arith, nat_tests)

rest-plain : (c : ℕ) (found : Option ℕ) → letter_among short_escapes c ≡ found → list_all is_unbroken_ascii (escape_after_backslash found c) ≡ true
rest-plain c found x = grind (arith, nat_tests, and_from, letter-found, short_escapes, number-plain, nat_le)

rest-short : (c : ℕ) (found : Option ℕ) → length (escape_after_backslash found c) ≤ 9
rest-short c found = grind (arith, nat_tests, number-short, nat_le)

pub escape-plain : (c : ℕ) → list_all is_unbroken_ascii (escape_text c) ≡ true
escape-plain c = rest-plain c (letter_among short_escapes c) refl

pub escape-short : (c : ℕ) → length (escape_text c) ≤ 10
escape-short c = omega (arith, rest-short c (letter_among short_escapes c))
