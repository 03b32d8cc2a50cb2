-- Texts without a break: their effect on a column and on a text's lines; and that no written character holds one.
use Rattle.yaml_scalar.proofs.Common.{suc, zero, ℕ, ◌%◌, ◌+◌, ◌/◌, ◌≤◌, if◌then◌else◌, ◌==◌, Option, Some, nat_le, length, replicate, Bool, false, not}
use Rattle.yaml_scalar.proofs.Common.{true, ◌&&◌, ◌||◌, List, [], ◌++◌, ◌∷◌, refl, ◌≡◌, arith, and_parts, and_from, or_left, agree_below_at, not-false}
use Rattle.yaml_scalar.proofs.Common.{not-true, Text, line_feed, carriage_return, next_line, line_separator, paragraph_separator, space, is_break, nat_tests}
use Rattle.yaml_scalar.proofs.Common.{is_printable, hex_digit, hex_digits, column_after, is_rendered_text, is_indented_text, quote, backslash, ShortEscape}
use Rattle.yaml_scalar.proofs.Common.{short_escapes, letter_among, escape_after_backslash, escape_text, needs_escape, character_text}

-- no character of the text is a break
abbrev pub is_unbroken : Text → Bool
is_unbroken [] = true
is_unbroken (c ∷ rest) = not (is_break c) && is_unbroken rest

pub unbroken-append : (a b : Text) → is_unbroken a ≡ true → is_unbroken b ≡ true → is_unbroken (a ++ b) ≡ true
unbroken-append [] b h k = k
unbroken-append (c ∷ a) b h k = grind (arith, nat_tests, not, is_break, is_unbroken, and_parts, and_from, unbroken-append a b)

pub unbroken-replicate : (n : ℕ) → is_unbroken (replicate n space) ≡ true
unbroken-replicate zero = refl
unbroken-replicate (suc n) = unbroken-replicate n

-- such a text moves the column by its length
pub unbroken-column : (text : Text) (column : ℕ) → is_unbroken text ≡ true → column_after text column ≡ column + length text
unbroken-column [] column h = omega arith
unbroken-column (c ∷ rest) column h =
    grind (arith, nat_tests, not, is_break, is_unbroken, and_parts, not-true, column_after, length, unbroken-column rest (column + 1))

-- CR and U+0085 are breaks
second-and-third : (a b c d e : Bool) → (a || b || c || d || e) ≡ false → not (b || c) ≡ true
second-and-third a b c d e h = grind (arith, nat_tests)

pub unbroken-rendered : (text : Text) → is_unbroken text ≡ true → is_rendered_text text ≡ true
unbroken-rendered [] h = refl
unbroken-rendered (c ∷ rest) h =
    let p : (not (is_break c) ≡ true) × (is_unbroken rest ≡ true) = and_parts _ _ h in
    let q : is_break c ≡ false = not-true _ p.0 in
    and_from _ _ (second-and-third (c == line_feed) (c == carriage_return) (c == next_line) (c == line_separator) (c == paragraph_separator) q)
    (unbroken-rendered rest p.1)

-- lines after such a text stay as they are
pub unbroken-indented : (a b : Text) → is_unbroken a ≡ true → is_indented_text b ≡ true → is_indented_text (a ++ b) ≡ true
unbroken-indented [] b h k = k
unbroken-indented (c ∷ a) b h k = grind (arith, nat_tests, not, is_break, is_unbroken, and_parts, and_from, or_left, unbroken-indented a b)

-- no letter of a table is a break
abbrev letters_unbroken : List ShortEscape → Bool
letters_unbroken [] = true
letters_unbroken (entry ∷ more) = not (is_break entry.letter) && letters_unbroken more

letter-found : (table : List ShortEscape) (c letter : ℕ) → letters_unbroken table ≡ true
    → letter_among table c ≡ Some letter → not (is_break letter) ≡ true
letter-found [] c letter h found = cc
letter-found (entry ∷ more) c letter h found = grind (arith, nat_tests, not, is_break, letters_unbroken, and_parts, letter-here, letter-found more c letter)
  where
    letter-here : (more : List ShortEscape) (entry : ShortEscape) (c letter : ℕ) (b : Bool) → not (is_break entry.letter) ≡ true
        → (letter_among more c ≡ Some letter → not (is_break letter) ≡ true)
        → (if b then Some entry.letter else letter_among more c) ≡ Some letter → not (is_break letter) ≡ true
    letter-here more entry c letter b here later h = grind (arith, nat_tests)

-- no digit is a break
digit-unbroken : (n : ℕ) → not (is_break (hex_digit (n % 16))) ≡ true
digit-unbroken n = agree_below_at (λ d. not (is_break (hex_digit d))) (λ d. true) 16 (n % 16) refl (omega arith)

digits-unbroken : (count n : ℕ) → is_unbroken (hex_digits count n) ≡ true
digits-unbroken zero n = refl
digits-unbroken (suc count) n = grind (arith, nat_tests, unbroken-append, hex_digits, hex_digit, and_from, digit-unbroken, digits-unbroken count (n / 16))

number-unbroken : (c : ℕ) (two four : Bool)
    → is_unbroken (if two then 120 ∷ hex_digits 2 c else (if four then 117 ∷ hex_digits 4 c else 85 ∷ hex_digits 8 c)) ≡ true
number-unbroken c true four = digits-unbroken 2 c
number-unbroken c false true = digits-unbroken 4 c
number-unbroken c false false = digits-unbroken 8 c

rest-unbroken : (c : ℕ) (found : Option ℕ) → letter_among short_escapes c ≡ found → is_unbroken (escape_after_backslash found c) ≡ true
rest-unbroken c found x = grind (arith, nat_tests, and_from, letter-found, short_escapes, number-unbroken, nat_le)

escape-unbroken : (c : ℕ) → is_unbroken (escape_text c) ≡ true
escape-unbroken c = rest-unbroken c (letter_among short_escapes c) refl

parts-false : (a b c d e : Bool) → (a || b || c || d || e) ≡ false → (a ≡ false) × (c ≡ false) × (d ≡ false) × (e ≡ false)
parts-false a b c d e h = grind (arith, nat_tests)

-- a character that needs no escape is printable, and neither a break nor the quote nor the backslash
pub record Unescaped (c : ℕ) : Type 0 where
  pub printable : is_printable c ≡ true
  pub no_break : is_break c ≡ false
  pub no_quote : (c == quote) ≡ false
  pub no_backslash : (c == backslash) ≡ false

pub unescaped : (unicode : Bool) (c : ℕ) → needs_escape unicode c ≡ false → Unescaped c
unescaped unicode c h = grind (arith, parts-false, not-false)

-- no text of a character holds a break
pub character-unbroken : (unicode : Bool) (c : ℕ) → is_unbroken (character_text unicode c) ≡ true
character-unbroken unicode c = go (needs_escape unicode c) refl
  where
    go : (b : Bool) → needs_escape unicode c ≡ b → is_unbroken (if b then escape_text c else c ∷ []) ≡ true
    go true is = escape-unbroken c
    go false is = let e : is_break c ≡ false = (unescaped unicode c is).no_break in rw e

-- each holds a character
pub character-long : (unicode : Bool) (c : ℕ) → 1 ≤ length (character_text unicode c)
character-long unicode c = go (needs_escape unicode c)
  where
    go : (b : Bool) → 1 ≤ length (if b then escape_text c else c ∷ [])
    go b = grind (arith, nat_tests)
