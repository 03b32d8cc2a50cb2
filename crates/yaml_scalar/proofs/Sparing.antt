-- Tests that spare printable ASCII and LF: the text in a style holds no character that meets such a test, if the value's own
-- characters that are written unescaped don't.
use Rattle.yaml_scalar.proofs.Common.{suc, zero, ℕ, ◌%◌, ◌/◌, if◌then◌else◌, Option, Some, nat_le, replicate, Bool, false, true, ◌&&◌, List, []}
use Rattle.yaml_scalar.proofs.Common.{◌∷◌, refl, ◌≡◌, arith, and_parts, and_from, agree_below_at, list_all-append, list_all, list_any, Text, is_between, space}
use Rattle.yaml_scalar.proofs.Common.{line_feed, is_space, hex_digit, hex_digits, Cursor, render_text, new_line, is_past_width, quote, backslash, ShortEscape}
use Rattle.yaml_scalar.proofs.Common.{short_escapes, letter_among, escape_after_backslash, escape_text, needs_escape, character_text, may_fold, space_kept}
use Rattle.yaml_scalar.proofs.Common.{double_fold, double_character, double_inside, render_quote, double_quoted_body, plain_body, single_quoted_body, nat_tests}
use Rattle.yaml_scalar.proofs.{PlainReads.body-lines, SingleReads.body-inside, SingleReads.any_doubled}
use Rattle.yaml_scalar.proofs.LineTexts.{any_cond, any_both, any_one, any_indentation, any_bare}

-- a printable character of ASCII other than the space
abbrev pub is_graph : ℕ → Bool
is_graph c = is_between 0x21 0x7E c

-- a test that holds of none of these, nor of the space and LF
pub record Spares (test : ℕ → Bool) : Type 0 where
  pub graph : (c : ℕ) → is_graph c ≡ true → test c ≡ false
  pub blank : test space ≡ false
  pub feed : test line_feed ≡ false

-- Escapes are of such characters.

-- the letters of a table
abbrev letters_graph : List ShortEscape → Bool
letters_graph [] = true
letters_graph (entry ∷ more) = is_graph entry.letter && letters_graph more

letter_graph : (table : List ShortEscape) (c letter : ℕ) → letters_graph table ≡ true
    → letter_among table c ≡ Some letter → is_graph letter ≡ true
letter_graph [] c letter h found = cc
letter_graph (entry ∷ more) c letter h found = grind (arith, nat_tests, is_graph, letters_graph, and_parts, letter_here, letter_graph more c letter)
  where
    letter_here : (b : Bool) → is_graph entry.letter ≡ true → (letter_among more c ≡ Some letter → is_graph letter ≡ true)
        → (if b then Some entry.letter else letter_among more c) ≡ Some letter → is_graph letter ≡ true
    letter_here b here later h = grind (arith, nat_tests)

-- hexadecimal digits
digit_graph : (n : ℕ) → is_graph (hex_digit (n % 16)) ≡ true
digit_graph n = agree_below_at (λ d. is_graph (hex_digit d)) (λ d. true) 16 (n % 16) refl (omega arith)

-- any number of digits
pub digits_graph : (count n : ℕ) → list_all is_graph (hex_digits count n) ≡ true
digits_graph zero n = refl
digits_graph (suc count) n = grind (arith, list_all-append, and_from, digit_graph, digits_graph count (n / 16))

-- the digits of an escape, with their letter
number_graph : (c : ℕ) (two four : Bool)
    → list_all is_graph (if two then 120 ∷ hex_digits 2 c else (if four then 117 ∷ hex_digits 4 c else 85 ∷ hex_digits 8 c)) ≡ true
number_graph c true four = digits_graph 2 c
number_graph c false true = digits_graph 4 c
number_graph c false false = digits_graph 8 c

-- the text after the backslash
escape_rest : (c : ℕ) (found : Option ℕ) → letter_among short_escapes c ≡ found → list_all is_graph (escape_after_backslash found c) ≡ true
escape_rest c found x = grind (arith, nat_tests, and_from, letter_graph, short_escapes, number_graph, nat_le)

-- an escape
pub escape_graph : (c : ℕ) → list_all is_graph (escape_text c) ≡ true
escape_graph c = escape_rest c (letter_among short_escapes c) refl

module _ (test : ℕ → Bool) (spares : Spares test) where
  -- a text of such characters
  pub lacks_graph : (text : Text) → list_all is_graph text ≡ true → list_any test text ≡ false
  lacks_graph [] h = refl
  lacks_graph (c ∷ rest) h = grind (arith, nat_tests, is_graph, list_all, and_parts, any_one, lacks_graph rest)

  -- indentation
  pub lacks_spaces : (n : ℕ) → list_any test (replicate n space) ≡ false
  lacks_spaces n = any_indentation test n spares.blank

  -- a new line
  pub lacks_line : (at : ℕ) (cursor : Cursor) → list_any test (new_line at cursor).text ≡ false
  lacks_line at cursor = grind (arith, any_cond, any_one, lacks_spaces)

  -- a plain body
  pub lacks_plain : (limit : Option ℕ) (indent : ℕ) (value : Text) (cursor : Cursor) → list_any test value ≡ false
      → list_any test (plain_body limit indent value cursor).text ≡ false
  lacks_plain limit indent value cursor own = grind (arith, body-lines, any_bare)

  -- a single-quoted body
  pub lacks_single : (limit : Option ℕ) (indent : ℕ) (value : Text) (cursor : Cursor) → list_any test value ≡ false
      → list_any test (single_quoted_body limit indent value cursor).text ≡ false
  lacks_single limit indent value cursor own = grind (arith, any_bare, body-inside, any_one, any_both, any_doubled)

  module _ (unicode : Bool) (raw : (c : ℕ) → needs_escape unicode c ≡ false → test c ≡ false) where
    -- a character, as an escape or as itself
    lacks_character : (c : ℕ) → list_any test (character_text unicode c) ≡ false
    lacks_character c = by (needs_escape unicode c) refl
      where
        by : (b : Bool) → needs_escape unicode c ≡ b → list_any test (if b then escape_text c else c ∷ []) ≡ false
        by true e = lacks_graph (escape_text c) (escape_graph c)
        by false e = any_one test c [] (raw c e) refl

    -- a backslash before a space
    lacks_kept : (rest : Text) → list_any test (space_kept rest) ≡ false
    lacks_kept rest = grind (arith, nat_tests, any_cond, is_space, backslash, any_one)

    -- the text between the quotes
    lacks_inside : (limit : Option ℕ) (indent : ℕ) (before : Option ℕ) (value : Text) (cursor : Cursor)
        → list_any test (double_inside unicode limit indent before value cursor).text ≡ false
    lacks_inside limit indent before [] cursor = refl
    lacks_inside limit indent before (c ∷ rest) cursor =
        any_both test (double_character unicode limit indent before c rest cursor).text _
        (by (is_space c && may_fold before rest && is_past_width limit cursor)) (lacks_inside limit indent (Some c) rest _)
      where
        by : (b : Bool) → list_any test (if b then double_fold indent rest cursor else render_text (character_text unicode c) cursor).text ≡ false
        by true = any_both test (new_line indent cursor).text (space_kept rest) (lacks_line indent cursor) (lacks_kept rest)
        by false = lacks_character c

    -- a double-quoted body, whatever the value
    pub lacks_double : (limit : Option ℕ) (indent : ℕ) (value : Text) (cursor : Cursor)
        → list_any test (double_quoted_body unicode limit indent value cursor).text ≡ false
    lacks_double limit indent value cursor = grind (arith, nat_tests, quote, any_one, any_both, double_inside, render_quote, lacks_inside)
