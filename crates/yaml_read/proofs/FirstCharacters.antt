-- The meaning of a character between quotes, by its first character.
use Rattle.yaml_read.proofs.Common.{ℕ, ◌<◌, ◌≤◌, [], ◌∷◌, ◌++◌, ◌≡◌, ◌∙◌, true≢false, true, false, Option, None, Some, List, ap, sym, arith, Text}
use Rattle.yaml_read.proofs.Common.{encode_utf8_all, encode_utf8, all_scalars, hex_digits, character_text, short_escapes, letter_among, needs_escape}
use Rattle.yaml_read.proofs.Common.{escape_after_backslash, length, letter_meaning, backslash, MatchOption, Bor}
use Rattle.yaml_read.proofs.Escapes.{Stands, as_itself, as_escape, stands}
use Rattle.yaml_read.proofs.Firsts.{AfterBackslash, by_letter, by_two, by_four, after_backslash, first_is, not_empty}

none_some : (c : ℕ) → ◌≡◌ {A = Option ℕ} None (Some c) → ⊥
none_some c is = cc

-- ---- after a backslash

some_by : (c : ℕ) (escape rest : Text) (bytes : List ℕ) → AfterBackslash c escape → bytes ≡ encode_utf8_all (escape ++ rest) → length bytes ≡ 0 → ⊥
some_by c _ rest bytes (by_letter letter means) is none = not_empty bytes letter rest is none
some_by c _ rest bytes (by_two own few) is none = not_empty bytes 120 (hex_digits 2 c ++ rest) is none
some_by c _ rest bytes (by_four own more few) is none = not_empty bytes 117 (hex_digits 4 c ++ rest) is none

-- an escape goes on after its backslash
pub escape_there : (c : ℕ) (rest : Text) (bytes : List ℕ) → all_scalars (c ∷ []) ≡ true → needs_escape true c ≡ true
    → bytes ≡ encode_utf8_all (escape_after_backslash (letter_among short_escapes c) c ++ rest) → length bytes ≡ 0 → ⊥
escape_there c rest bytes scalar needs is none = some_by _ _ rest _ (after_backslash c scalar needs) is none

two_by : (c : ℕ) (escape rest : Text) (letter : ℕ) (bytes tail : List ℕ) → AfterBackslash c escape → bytes ≡ encode_utf8_all (escape ++ rest)
    → bytes ≡ encode_utf8 letter ++ tail → letter ≡ 120
    → (c < 256) × (letter_among short_escapes c ≡ None) × (tail ≡ encode_utf8_all (hex_digits 2 c ++ rest))
two_by c _ rest letter bytes tail (by_letter own means) is starts same =
    absurd (none_some c (ap letter_meaning (sym same ∙ (first_is bytes tail letter own rest starts is).0) ∙ means))
two_by c _ rest letter bytes tail (by_two none few) is starts same = (few, none, (first_is bytes tail letter 120 (hex_digits 2 c ++ rest) starts is).1)
two_by c _ rest letter bytes tail (by_four none many few) is starts same =
    absurd (omega (arith, same, (first_is bytes tail letter 117 (hex_digits 4 c ++ rest) starts is).0))

-- two digits
pub two_digits_follow : (c : ℕ) (rest : Text) (letter : ℕ) (bytes tail : List ℕ) → all_scalars (c ∷ []) ≡ true → needs_escape true c ≡ true
    → bytes ≡ encode_utf8_all (escape_after_backslash (letter_among short_escapes c) c ++ rest) → bytes ≡ encode_utf8 letter ++ tail → letter ≡ 120
    → (c < 256) × (letter_among short_escapes c ≡ None) × (tail ≡ encode_utf8_all (hex_digits 2 c ++ rest))
two_digits_follow c rest letter bytes tail scalar needs is starts same = two_by _ _ rest _ _ tail (after_backslash c scalar needs) is starts same

four_by : (c : ℕ) (escape rest : Text) (letter : ℕ) (bytes tail : List ℕ) → AfterBackslash c escape → bytes ≡ encode_utf8_all (escape ++ rest)
    → bytes ≡ encode_utf8 letter ++ tail → letter ≡ 117
    → (256 ≤ c) × (c < 65536) × (letter_among short_escapes c ≡ None) × (tail ≡ encode_utf8_all (hex_digits 4 c ++ rest))
four_by c _ rest letter bytes tail (by_letter own means) is starts same =
    absurd (none_some c (ap letter_meaning (sym same ∙ (first_is bytes tail letter own rest starts is).0) ∙ means))
four_by c _ rest letter bytes tail (by_two none few) is starts same =
    absurd (omega (arith, same, (first_is bytes tail letter 120 (hex_digits 2 c ++ rest) starts is).0))
four_by c _ rest letter bytes tail (by_four none many few) is starts same =
    (many, few, none, (first_is bytes tail letter 117 (hex_digits 4 c ++ rest) starts is).1)

-- four digits
pub four_digits_follow : (c : ℕ) (rest : Text) (letter : ℕ) (bytes tail : List ℕ) → all_scalars (c ∷ []) ≡ true → needs_escape true c ≡ true
    → bytes ≡ encode_utf8_all (escape_after_backslash (letter_among short_escapes c) c ++ rest) → bytes ≡ encode_utf8 letter ++ tail → letter ≡ 117
    → (256 ≤ c) × (c < 65536) × (letter_among short_escapes c ≡ None) × (tail ≡ encode_utf8_all (hex_digits 4 c ++ rest))
four_digits_follow c rest letter bytes tail scalar needs is starts same = four_by _ _ rest _ _ tail (after_backslash c scalar needs) is starts same

letter_by : (c : ℕ) (escape rest : Text) (letter : ℕ) (bytes tail : List ℕ) → AfterBackslash c escape → bytes ≡ encode_utf8_all (escape ++ rest)
    → bytes ≡ encode_utf8 letter ++ tail → (letter ≡ 120 → ⊥) → (letter ≡ 117 → ⊥) → (letter_meaning letter ≡ Some c) × (tail ≡ encode_utf8_all rest)
letter_by c _ rest letter bytes tail (by_letter own means) is starts two four =
    let first = first_is _ tail letter own rest starts is in (ap letter_meaning first.0 ∙ means, first.1)
letter_by c _ rest letter bytes tail (by_two none few) is starts two four = absurd (two (first_is _ tail letter 120 (hex_digits 2 c ++ rest) starts is).0)
letter_by c _ rest letter bytes tail (by_four none many few) is starts two four =
    absurd (four (first_is _ tail letter 117 (hex_digits 4 c ++ rest) starts is).0)

-- a letter that means the character
pub letter_follows : (c : ℕ) (rest : Text) (letter : ℕ) (bytes tail : List ℕ) → all_scalars (c ∷ []) ≡ true → needs_escape true c ≡ true
    → bytes ≡ encode_utf8_all (escape_after_backslash (letter_among short_escapes c) c ++ rest) → bytes ≡ encode_utf8 letter ++ tail
    → (letter ≡ 120 → ⊥) → (letter ≡ 117 → ⊥) → (letter_meaning letter ≡ Some c) × (tail ≡ encode_utf8_all rest)
letter_follows c rest letter bytes tail scalar needs is starts two four =
    letter_by c (escape_after_backslash (letter_among short_escapes c) c) rest letter bytes tail (after_backslash c scalar needs) is starts two four

-- ---- between quotes

backslash_by : (c : ℕ) (text rest : Text) (first : ℕ) (bytes tail : List ℕ) → Stands c text → bytes ≡ encode_utf8_all (text ++ rest)
    → bytes ≡ encode_utf8 first ++ tail → first ≡ backslash
    → (needs_escape true c ≡ true) × (tail ≡ encode_utf8_all (escape_after_backslash (letter_among short_escapes c) c ++ rest))
backslash_by c _ rest first bytes tail (as_itself plain) is starts same =
    absurd (true≢false (ap (needs_escape true) (sym same ∙ (first_is bytes tail first c rest starts is).0) ∙ plain))
backslash_by c _ rest first bytes tail (as_escape needs) is starts same =
    (needs, (first_is bytes tail first backslash (escape_after_backslash (letter_among short_escapes c) c ++ rest) starts is).1)

-- an escape
pub backslash_first : (c : ℕ) (rest : Text) (first : ℕ) (bytes tail : List ℕ) → bytes ≡ encode_utf8_all (character_text true c ++ rest)
    → bytes ≡ encode_utf8 first ++ tail → first ≡ backslash
    → (needs_escape true c ≡ true) × (tail ≡ encode_utf8_all (escape_after_backslash (letter_among short_escapes c) c ++ rest))
backslash_first c rest first bytes tail is starts same = backslash_by c (character_text true c) rest first bytes tail (stands c) is starts same

itself_by : (c : ℕ) (text rest : Text) (first : ℕ) (bytes tail : List ℕ) → Stands c text → bytes ≡ encode_utf8_all (text ++ rest)
    → bytes ≡ encode_utf8 first ++ tail → (first ≡ backslash → ⊥)
    → (needs_escape true first ≡ false) × (first ≡ c) × (tail ≡ encode_utf8_all rest)
itself_by c _ rest first bytes tail (as_itself plain) is starts other =
    let same = first_is bytes tail first c rest starts is in (ap (needs_escape true) same.0 ∙ plain, same.0, same.1)
itself_by c _ rest first bytes tail (as_escape needs) is starts other =
    absurd (other (first_is bytes tail first backslash (escape_after_backslash (letter_among short_escapes c) c ++ rest) starts is).0)

-- the character itself
pub itself_first : (c : ℕ) (rest : Text) (first : ℕ) (bytes tail : List ℕ) → bytes ≡ encode_utf8_all (character_text true c ++ rest)
    → bytes ≡ encode_utf8 first ++ tail → (first ≡ backslash → ⊥)
    → (needs_escape true first ≡ false) × (first ≡ c) × (tail ≡ encode_utf8_all rest)
itself_first c rest first bytes tail is starts other = itself_by c (character_text true c) rest first bytes tail (stands c) is starts other

-- a character's text isn't empty
there_by : (c : ℕ) (text rest : Text) (bytes : List ℕ) → Stands c text → bytes ≡ encode_utf8_all (text ++ rest) → length bytes ≡ 0 → ⊥
there_by c text rest bytes h1 h2 h3 = grind (arith, not_empty, backslash, escape_after_backslash, letter_among, short_escapes)

pub character_there : (c : ℕ) (rest : Text) (bytes : List ℕ) → bytes ≡ encode_utf8_all (character_text true c ++ rest) → length bytes ≡ 0 → ⊥
character_there c rest bytes is none = there_by c (character_text true c) rest bytes (stands c) is none

-- a character that was read before a rest
pub read_on : (found : Option (ℕ × Bor (List ℕ))) (c : ℕ) (rest : Text) (tail : List ℕ) → tail ≡ encode_utf8_all rest
    → MatchOption found ⊥ (λ found. (found.0 ≡ c) × (found.1.now ≡ tail))
    → MatchOption found ⊥ (λ found. (found.0 ≡ c) × (found.1.now ≡ encode_utf8_all rest))
read_on found c rest tail h1 h2 = grind arith
