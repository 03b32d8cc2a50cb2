-- The text of a character between double quotes reads as that character.
use Rattle.yaml_scalar.proofs.Common.{suc, zero, ℕ, ◌%◌, ◌+◌, ◌/◌, ◌<◌, ◌≤◌, if◌then◌else◌, ◌==◌, Option, None, Some, nat_le, Bool, false, true, ◌&&◌, List}
use Rattle.yaml_scalar.proofs.Common.{[], ◌++◌, ◌∷◌, refl, ◌≡◌, eqb-true, leb-true, append_assoc, arith, scalar, and_parts, agree_below_at, nat_tests}
use Rattle.yaml_scalar.proofs.Common.{Text, hex_digit, hex_digits, between, with_unit, quoted_from, itself, ShortEscape, short_escapes}
use Rattle.yaml_scalar.proofs.Common.{letter_among, escape_after_backslash, escape_text}
use Rattle.std.{proofs.Math.Utf8.scalar_cases, specs.Prelude.◌*◌}
use Rattle.yaml_base.specs.reading.ReadDouble.{after_backslash, within_digits, letter_meaning, digit_meaning, is_scalar_number}

-- an answer is there and is this number
abbrev is_answer : Option ℕ → ℕ → Bool
is_answer None n = false
is_answer (Some m) n = m == n

is_answer-is : (o : Option ℕ) (n : ℕ) → is_answer o n ≡ true → o ≡ Some n
is_answer-is o n h = grind (arith, nat_tests, eqb-true)

-- each letter of a table reads as its character
abbrev letters_read : List ShortEscape → Bool
letters_read [] = true
letters_read (entry ∷ more) = is_answer (letter_meaning entry.letter) entry.character && letters_read more

letter-found : (more : List ShortEscape) (entry : ShortEscape) (c letter : ℕ) (b : Bool) → (c == entry.character) ≡ b
    → is_answer (letter_meaning entry.letter) entry.character ≡ true
    → (letter_among more c ≡ Some letter → letter_meaning letter ≡ Some c)
    → (if b then Some entry.letter else letter_among more c) ≡ Some letter → letter_meaning letter ≡ Some c
letter-found more entry c letter true is reads later h = grind (arith, eqb-true, is_answer-is)
letter-found more entry c letter false is reads later h = later h

letter-reads : (table : List ShortEscape) (c letter : ℕ) → letters_read table ≡ true
    → letter_among table c ≡ Some letter → letter_meaning letter ≡ Some c
letter-reads [] c letter h found = cc
letter-reads (entry ∷ more) c letter h found =
    grind (arith, nat_tests, is_answer, letter_meaning, letters_read, and_parts, letter-found, letter-reads more c letter)

-- a digit reads as its value
abbrev digit_reads : ℕ → Bool
digit_reads d = is_answer (digit_meaning (hex_digit d)) d

digit-reads : (d : ℕ) → d < 16 → digit_meaning (hex_digit d) ≡ Some d
digit-reads d h = is_answer-is _ d (agree_below_at digit_reads (λ k. true) 16 d refl h)

-- sixteen times itself so often
abbrev sixteen_to : ℕ → ℕ
sixteen_to zero = 1
sixteen_to (suc k) = sixteen_to k * 16

-- the number so far, after one more digit
digit-steps : (breaks12 : Bool) (more number d : ℕ) (rest : Text) → d < 16
    → quoted_from breaks12 (within_digits (suc more) number) (hex_digit d ∷ rest)
    ≡ quoted_from breaks12 (within_digits more (number * 16 + d)) rest
digit-steps breaks12 more number d rest h = rw (digit-reads d h)

-- so many digits, with more to come
digits-go : (breaks12 : Bool) (count more number n at : ℕ) (rest : Text) → at ≡ count + more → n < sixteen_to count
    → quoted_from breaks12 (within_digits at number) (hex_digits count n ++ rest)
    ≡ quoted_from breaks12 (within_digits more (number * sixteen_to count + n)) rest
digits-go breaks12 zero more number n at rest e h = grind (arith)
digits-go breaks12 (suc count) more number n at rest e h =
    grind (arith, nat_tests, sixteen_to, hex_digit, digit-steps, append_assoc, hex_digits, digits-go breaks12 count (suc more) number (n / 16), suc more)

-- the last digit gives the number
digit-ends : (breaks12 : Bool) (number d n : ℕ) (rest : Text) → d < 16 → number * 16 + d ≡ n → is_scalar_number n ≡ true
    → quoted_from breaks12 (within_digits zero number) (hex_digit d ∷ rest)
    ≡ with_unit (itself n) (quoted_from breaks12 between rest)
digit-ends breaks12 number d n rest h e s = rw (digit-reads d h, e, s)

-- all digits give the number
digits-read : (breaks12 : Bool) (count n : ℕ) (rest : Text) → n < sixteen_to (suc count) → is_scalar_number n ≡ true
    → quoted_from breaks12 (within_digits count 0) (hex_digits (suc count) n ++ rest)
    ≡ with_unit (itself n) (quoted_from breaks12 between rest)
digits-read breaks12 count n rest h s =
    let here : n / 16 < sixteen_to count = omega arith in
    let digit : n % 16 < 16 = omega arith in
    let none : count ≡ count + 0 = omega arith in
    let sums : (0 * sixteen_to count + n / 16) * 16 + n % 16 ≡ n = omega arith in
    let prefix = digits-go breaks12 count 0 0 (n / 16) count (hex_digit (n % 16) ∷ rest) none here in
    let last = digit-ends breaks12 (0 * sixteen_to count + n / 16) (n % 16) n rest digit sums s in
    rw (append_assoc (hex_digits count (n / 16)) (hex_digit (n % 16) ∷ []) rest, prefix, last)

-- the number of a character has a reading
scalar-number : (c : ℕ) → scalar c ≡ true → (is_scalar_number c ≡ true) × (c < 0x110000)
scalar-number c h = grind (arith, scalar_cases)

-- two, four or eight digits after their letter
number-reads : (breaks12 : Bool) (c : ℕ) (rest : Text) (two four : Bool) → nat_le c 0xFF ≡ two → nat_le c 0xFFFF ≡ four
    → scalar c ≡ true
    → quoted_from breaks12 after_backslash
    ((if two then 120 ∷ hex_digits 2 c else (if four then 117 ∷ hex_digits 4 c else 85 ∷ hex_digits 8 c)) ++ rest)
    ≡ with_unit (itself c) (quoted_from breaks12 between rest)
number-reads breaks12 c rest true four is_two is_four h =
    let le : c ≤ 0xFF = leb-true c 0xFF is_two in
    digits-read breaks12 1 c rest (omega arith) (scalar-number c h).0
number-reads breaks12 c rest false true is_two is_four h =
    let le : c ≤ 0xFFFF = leb-true c 0xFFFF is_four in
    digits-read breaks12 3 c rest (omega arith) (scalar-number c h).0
number-reads breaks12 c rest false false is_two is_four h =
    let s = scalar-number c h in
    digits-read breaks12 7 c rest (omega arith) s.0

-- the text after the backslash, whether a letter is found or not
rest-reads : (breaks12 : Bool) (c : ℕ) (rest : Text) (found : Option ℕ) → letter_among short_escapes c ≡ found → scalar c ≡ true
    → quoted_from breaks12 after_backslash (escape_after_backslash found c ++ rest)
    ≡ with_unit (itself c) (quoted_from breaks12 between rest)
rest-reads breaks12 c rest found x h = grind (arith, nat_tests, letter-reads, short_escapes, number-reads, nat_le)

-- an escape reads as its character, whatever follows
pub escape-reads : (breaks12 : Bool) (c : ℕ) (rest : Text) → scalar c ≡ true
    → quoted_from breaks12 between (escape_text c ++ rest) ≡ with_unit (itself c) (quoted_from breaks12 between rest)
escape-reads breaks12 c rest h = rest-reads breaks12 c rest (letter_among short_escapes c) refl h
