-- Escapes and digits.
use Rattle.yaml_base.proofs.Common.{ℕ, ◌<◌, ◌==◌, ◌&&◌, [], ◌∷◌, ◌≡◌, true≢false, if◌then◌else◌, Bool, true, false, Option, None, Some, List, refl, arith}
use Rattle.yaml_base.proofs.Common.{nat_tests, nat_lt, ltb-true, and_parts, agree_below_at, eqb-true, Text, hex_digit, scalar_cases, all_scalars}
use Rattle.yaml_base.proofs.Common.{character_text}
use Rattle.yaml_base.specs.scalars.DoubleQuoted.{ShortEscape, short_escapes, letter_among, needs_escape, escape_after_backslash, escape_text}
use Rattle.yaml_base.{specs.reading.ReadDouble.letter_meaning, specs.reading.ReadDouble.digit_meaning, specs.Characters.backslash}

-- an answer is there and is this number
abbrev pub is_answer : Option ℕ → ℕ → Bool
is_answer None n = false
is_answer (Some m) n = m == n

pub is_answer-is : (o : Option ℕ) (n : ℕ) → is_answer o n ≡ true → o ≡ Some n
is_answer-is o n h1 = grind (arith, eqb-true)

-- a digit is read as its value
pub digit_reads : (d : ℕ) → d < 16 → digit_meaning (hex_digit d) ≡ Some d
digit_reads d h = is_answer-is _ d (agree_below_at (λ d. is_answer (digit_meaning (hex_digit d)) d) (λ k. true) 16 d refl h)

-- each letter of a table is read as its character
abbrev letters_read : List ShortEscape → Bool
letters_read [] = true
letters_read (entry ∷ more) = is_answer (letter_meaning entry.letter) entry.character && letters_read more

letter_found : (more : List ShortEscape) (entry : ShortEscape) (c letter : ℕ) (b : Bool) → (c == entry.character) ≡ b
    → is_answer (letter_meaning entry.letter) entry.character ≡ true
    → (letter_among more c ≡ Some letter → letter_meaning letter ≡ Some c)
    → (if b then Some entry.letter else letter_among more c) ≡ Some letter → letter_meaning letter ≡ Some c
letter_found more entry c letter b h1 h2 h3 h4 = grind (arith, eqb-true, is_answer-is)

letter_by : (table : List ShortEscape) (c letter : ℕ) → letters_read table ≡ true
    → letter_among table c ≡ Some letter → letter_meaning letter ≡ Some c
letter_by [] c letter h found = cc
letter_by (entry ∷ more) c letter h found =
    let p : (is_answer (letter_meaning entry.letter) entry.character ≡ true) × (letters_read more ≡ true) = and_parts _ _ h in
    letter_found more entry c letter (c == entry.character) refl p.0 (letter_by more c letter p.1) found

-- the letter of a character's escape is read as the character
pub letter_reads : (c letter : ℕ) → letter_among short_escapes c ≡ Some letter → letter_meaning letter ≡ Some c
letter_reads c letter found = letter_by short_escapes c letter refl found

-- no character past U+FFFF needs an escape
pub short_number : (c : ℕ) → all_scalars (c ∷ []) ≡ true → needs_escape true c ≡ true → c < 65536
short_number c is_scalar needs = grind (arith, nat_lt, true, ltb-true, false, true≢false, nat_tests, scalar_cases, and_parts)

-- how a character is written between quotes: as itself, or as a backslash and what follows it
pub data Stands (c : ℕ) : Text → Type 0 where
  as_itself : needs_escape true c ≡ false → Stands c (c ∷ [])
  as_escape : needs_escape true c ≡ true → Stands c (backslash ∷ escape_after_backslash (letter_among short_escapes c) c)

pub stands : (c : ℕ) → Stands c (character_text true c)
stands c = by (needs_escape true c) refl
  where
    by : (b : Bool) → needs_escape true c ≡ b → Stands c (if b then escape_text c else c ∷ [])
    by true is = as_escape is
    by false is = as_itself is
