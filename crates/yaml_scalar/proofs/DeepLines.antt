-- Texts whose lines after the first begin with at least `count` spaces, and in which no space precedes a break: how they
-- are put together.
use Rattle.yaml_scalar.proofs.Common.{suc, zero, ℕ, ◌≤◌, ◌==◌, replicate, Bool, false, not, true, [], ◌++◌, ◌∷◌, refl, ◌≡◌, eqb-true, ap, arith, tab}
use Rattle.yaml_scalar.proofs.Common.{or_from, is_blank, and_from, or_left, or_right, false≢true, Text, space, is_read_break, begins_with_spaces}
use Rattle.yaml_scalar.proofs.Common.{begins_with_blank_line, begins_with_deep_line, has_deep_lines, begins_with_break, nat_tests}
use Rattle.yaml_base.proofs.Common.{has_no_space_before_break}

-- neither a blank nor a break of a reader
pub record Ink (breaks12 : Bool) (c : ℕ) : Type 0 where
  pub no_space : (c == space) ≡ false
  pub no_tab : (c == tab) ≡ false
  pub no_break : is_read_break breaks12 c ≡ false

-- a text begins with such a character
abbrev pub BeginsInk : Bool → Text → Type 0
BeginsInk breaks12 [] = ⊥
BeginsInk breaks12 (c ∷ rest) = Ink breaks12 c

-- all its characters are such
abbrev pub AllInk : Bool → Text → Type 0
AllInk breaks12 [] = Unit {0}
AllInk breaks12 (c ∷ rest) = Ink breaks12 c × AllInk breaks12 rest

-- no character of a text breaks a line
abbrev pub Unbroken : Bool → Text → Type 0
Unbroken breaks12 [] = Unit {0}
Unbroken breaks12 (c ∷ rest) = (is_read_break breaks12 c ≡ false) × Unbroken breaks12 rest

-- a space is no break
pub space_unbroken : (breaks12 : Bool) → is_read_break breaks12 space ≡ false
space_unbroken breaks12 = grind (arith, nat_tests)

-- a break is no space
break_no_space : (breaks12 : Bool) (b : ℕ) → is_read_break breaks12 b ≡ true → (b == space) ≡ false
break_no_space breaks12 b h = grind (arith, eqb-true, false≢true, space_unbroken)

module _ (breaks12 : Bool) where
  -- ink is no break
  pub ink_unbroken : (text : Text) → BeginsInk breaks12 text → begins_with_break breaks12 text ≡ false
  ink_unbroken text h = grind (arith, nat_tests)

  -- a line that begins with neither a blank nor a break isn't blank
  pub unblank_line : (c : ℕ) (rest : Text) → is_read_break breaks12 c ≡ false → is_blank c ≡ false → begins_with_blank_line breaks12 (c ∷ rest) ≡ false
  unblank_line c rest goes_on shows = grind (arith, nat_tests, is_blank, begins_with_blank_line)

  -- a line of spaces and then ink isn't blank
  blank_spaces : (n : ℕ) (text : Text) → BeginsInk breaks12 text → begins_with_blank_line breaks12 (replicate n space ++ text) ≡ false
  blank_spaces zero [] h = absurd h
  blank_spaces zero (c ∷ rest) h = unblank_line c rest h.no_break (or_from (c == space) (c == tab) h.no_space h.no_tab)
  blank_spaces (suc n) text h = simp (space_unbroken breaks12, blank_spaces n text h)

  -- an indentation begins with as many spaces or fewer
  pub enough_spaces : (count indent : ℕ) (text : Text) → count ≤ indent → begins_with_spaces count (replicate indent space ++ text) ≡ true
  enough_spaces zero indent text h = refl
  enough_spaces (suc count) zero text h = absurd (omega (arith, h))
  enough_spaces (suc count) (suc indent) text h = enough_spaces count indent text (omega (arith, h))

  -- after a break: ink after enough spaces, or another break
  pub deep_indent : (count indent : ℕ) (text : Text) → count ≤ indent → BeginsInk breaks12 text
      → begins_with_deep_line breaks12 count (replicate indent space ++ text) ≡ true
  deep_indent count indent text enough h = grind (arith, nat_tests, or_right, and_from, enough_spaces, not, blank_spaces)

  -- a line that a break ends at once
  pub deep_break : (count : ℕ) (text : Text) → begins_with_break breaks12 text ≡ true → begins_with_deep_line breaks12 count text ≡ true
  deep_break count text h = grind (arith, nat_tests, false≢true, or_left)

  -- Deep lines

  -- characters that break no line, before deep lines
  pub deep_unbroken : (count : ℕ) (prefix text : Text) → Unbroken breaks12 prefix → has_deep_lines breaks12 count text ≡ true
      → has_deep_lines breaks12 count (prefix ++ text) ≡ true
  deep_unbroken count [] text h k = k
  deep_unbroken count (c ∷ prefix) text h k = and_from _ _ (or_left _ _ (ap not h.0)) (deep_unbroken count prefix text h.1 k)

  -- spaces break no line
  pub spaces_unbroken : (n : ℕ) → Unbroken breaks12 (replicate n space)
  spaces_unbroken zero = tt
  spaces_unbroken (suc n) = (space_unbroken breaks12, spaces_unbroken n)

  -- any character before a deep line
  pub deep_after : (count b : ℕ) (text : Text) → begins_with_deep_line breaks12 count text ≡ true → has_deep_lines breaks12 count text ≡ true
      → has_deep_lines breaks12 count (b ∷ text) ≡ true
  deep_after count b text h k = and_from _ _ (or_right _ _ h) k

  -- a text with deep lines and no space before a break
  pub record IsEven (count : ℕ) (text : Text) : Type 0 where
    pub deep : has_deep_lines breaks12 count text ≡ true
    pub even : has_no_space_before_break breaks12 text ≡ true

  -- another character than a space
  even_other : (c : ℕ) (text : Text) → (c == space) ≡ false → has_no_space_before_break breaks12 text ≡ true
      → has_no_space_before_break breaks12 (c ∷ text) ≡ true
  even_other c text h k = rw h k

  -- ink before such a text
  pub even_ink : (count : ℕ) (prefix text : Text) → AllInk breaks12 prefix → IsEven count text → IsEven count (prefix ++ text)
  even_ink count [] text h k = k
  even_ink count (c ∷ prefix) text h k = grind (arith, and_from, or_left, even_other, even_ink count prefix text h.1 k)

  -- a space, if no break follows
  pub even_space : (count : ℕ) (text : Text) → begins_with_break breaks12 text ≡ false → IsEven count text → IsEven count (space ∷ text)
  even_space count text h k = grind (arith, and_from, or_left, space_unbroken)

  -- a break before a deep line
  pub even_break : (count b : ℕ) (text : Text) → is_read_break breaks12 b ≡ true → begins_with_deep_line breaks12 count text ≡ true → IsEven count text
      → IsEven count (b ∷ text)
  even_break count b text h line k = grind (arith, deep_after, even_other, break_no_space)

  -- spaces before ink begin with no break
  spaces_before : (n : ℕ) (text : Text) → BeginsInk breaks12 text → begins_with_break breaks12 (replicate n space ++ text) ≡ false
  spaces_before n text h = grind (arith, nat_tests, ink_unbroken, space_unbroken)

  -- spaces before ink
  pub even_spaces : (count n : ℕ) (text : Text) → BeginsInk breaks12 text → IsEven count text → IsEven count (replicate n space ++ text)
  even_spaces count zero text h k = k
  even_spaces count (suc n) text h k = even_space count (replicate n space ++ text) (spaces_before n text h) (even_spaces count n text h k)

  -- a break and an indentation before ink
  pub even_line : (count indent b : ℕ) (text : Text) → count ≤ indent → is_read_break breaks12 b ≡ true → BeginsInk breaks12 text → IsEven count text
      → IsEven count (b ∷ (replicate indent space ++ text))
  even_line count indent b text enough h ink k =
      even_break count b (replicate indent space ++ text) h (deep_indent count indent text enough ink) (even_spaces count indent text ink k)

  -- nothing
  pub even_nothing : (count : ℕ) → IsEven count []
  even_nothing count = record { deep = refl; even = refl }
