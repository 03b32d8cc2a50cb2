-- The lines of a tidy text after its first lie inside the column of the block around, and of any block farther out.
use Rattle.yaml_base.proofs.Common.{or_from, or_parts}
use Rattle.yaml_base.proofs.Common.{nat_tests, suc, zero, ℕ, ◌≤◌, ◌==◌, Option, None, Some, Bool, false, not, true, ◌||◌, List, [], ◌∷◌, refl, ◌≡◌, eqb-true}
use Rattle.yaml_base.proofs.Common.{ap, ◌∙◌, arith, and_parts, and_from, false≢true, list_all, Text, space, ScalarStyle, is_read_break, begins_with_spaces}
use Rattle.yaml_base.proofs.Common.{begins_with_deep_line, has_deep_lines, is_tidy, Line, prepend_to_first_line, prepend_character, lines_of, belongs_to_entry}
use Rattle.yaml_base.proofs.stream_lines.StreamInside.{AllInside}

-- Fewer spaces

-- fewer spaces than are there
pub spaces_fewer : (m n : ℕ) (t : Text) → m ≤ n → begins_with_spaces n t ≡ true → begins_with_spaces m t ≡ true
spaces_fewer zero n t le h = refl
spaces_fewer (suc m) zero t le h = absurd (omega arith)
spaces_fewer (suc m) (suc n) [] le h = absurd (false≢true h)
spaces_fewer (suc m) (suc n) (c ∷ t) le h = grind (arith, and_parts, and_from, or_parts, or_from, spaces_fewer m n t (omega arith))

deep_line_fewer : (breaks12 : Bool) (m n : ℕ) (t : Text) → m ≤ n → begins_with_deep_line breaks12 n t ≡ true → begins_with_deep_line breaks12 m t ≡ true
deep_line_fewer breaks12 m n t le h = grind (arith, and_parts, and_from, spaces_fewer)

-- lines that are deep enough for a block are deep enough for one farther out
pub deep_lines_fewer : (breaks12 : Bool) (m n : ℕ) (t : Text) → m ≤ n → has_deep_lines breaks12 n t ≡ true → has_deep_lines breaks12 m t ≡ true
deep_lines_fewer breaks12 m n [] le h = refl
deep_lines_fewer breaks12 m n (c ∷ t) le h =
    let parts = and_parts _ _ h in
    and_from _ _ (by (is_read_break breaks12 c) parts.0) (deep_lines_fewer breaks12 m n t le parts.1)
  where
    by : (x : Bool) → (not x || begins_with_deep_line breaks12 n t) ≡ true → (not x || begins_with_deep_line breaks12 m t) ≡ true
    by true h = deep_line_fewer breaks12 m n t le h
    by false h = refl

-- a text that is tidy in a block is tidy at the root
pub tidy_at_root : (style : ScalarStyle) (breaks12 : Bool) (column : Option ℕ) (text : Text) → is_tidy style breaks12 column text ≡ true
    → is_tidy style breaks12 None text ≡ true
tidy_at_root style breaks12 None text h = h
tidy_at_root style breaks12 (Some column) text h =
    let parts = and_parts _ _ h in
    let both = and_parts _ _ parts.0 in
    and_from _ _ (and_from _ _ both.0 (deep_lines_fewer breaks12 1 (suc column) text (omega arith) both.1)) parts.1

-- Lines

-- the text of the first of some lines
abbrev pub first_text : List Line → Text
first_text [] = []
first_text (line ∷ rest) = line.text

-- the lines after the first
abbrev pub lines_after_first : List Line → List Line
lines_after_first [] = []
lines_after_first (line ∷ rest) = rest

pub first_extended : (c : ℕ) (lines : List Line) → first_text (prepend_to_first_line c lines) ≡ c ∷ first_text lines
first_extended c lines = grind (arith, nat_tests)

pub after_extended : (c : ℕ) (lines : List Line) → lines_after_first (prepend_to_first_line c lines) ≡ lines_after_first lines
after_extended c lines = grind (arith, nat_tests)

-- a space is no break
no_break : (breaks12 : Bool) (c : ℕ) → (c == space) ≡ true → is_read_break breaks12 c ≡ false
no_break breaks12 c e = grind (arith, eqb-true)

-- a character that is a space begins the first line
first_after_space : (breaks12 : Bool) (c : ℕ) (t : Text) → (c == space) ≡ true → first_text (lines_of breaks12 (c ∷ t)) ≡ c ∷ first_text (lines_of breaks12 t)
first_after_space breaks12 c t e =
    ap (λ x. first_text (prepend_character x c (lines_of breaks12 t))) (no_break breaks12 c e) ∙ first_extended c (lines_of breaks12 t)

-- so many spaces begin a line inside the column before them
pub spaces_inside : (breaks12 : Bool) (column : ℕ) (t : Text) → begins_with_spaces (suc column) t ≡ true
    → belongs_to_entry true column (first_text (lines_of breaks12 t)) ≡ true
spaces_inside breaks12 column [] h = absurd (false≢true h)
spaces_inside breaks12 zero (c ∷ t) h = grind (arith, and_parts, first_after_space)
spaces_inside breaks12 (suc column) (c ∷ t) h = grind (arith, and_parts, and_from, or_parts, or_from, first_after_space, spaces_inside breaks12 column t)

-- a deep line lies inside the column
first_inside : (breaks12 : Bool) (column : ℕ) (t : Text) → begins_with_deep_line breaks12 (suc column) t ≡ true
    → belongs_to_entry true column (first_text (lines_of breaks12 t)) ≡ true
first_inside breaks12 column t h = grind (arith, nat_tests, spaces_inside, and_parts)

-- the first line and those after it
all_inside : (column : ℕ) (lines : List Line) → belongs_to_entry true column (first_text lines) ≡ true → AllInside true column (lines_after_first lines)
    → AllInside true column lines
all_inside column [] h k = refl
all_inside column (line ∷ rest) h k = and_from (belongs_to_entry true column line.text) (list_all (λ line. belongs_to_entry true column line.text) rest) h k

-- the lines of a text after its first are inside the column if they are deep
pub deep_lines_inside : (breaks12 : Bool) (column : ℕ) (t : Text) → has_deep_lines breaks12 (suc column) t ≡ true
    → AllInside true column (lines_after_first (lines_of breaks12 t))
deep_lines_inside breaks12 column [] h = refl
deep_lines_inside breaks12 column (c ∷ t) h =
    let parts = and_parts (not (is_read_break breaks12 c) || begins_with_deep_line breaks12 (suc column) t) (has_deep_lines breaks12 (suc column) t) h in
    by (is_read_break breaks12 c) parts.0 (deep_lines_inside breaks12 column t parts.1)
  where
    by : (x : Bool) → (not x || begins_with_deep_line breaks12 (suc column) t) ≡ true → AllInside true column (lines_after_first (lines_of breaks12 t))
        → AllInside true column (lines_after_first (prepend_character x c (lines_of breaks12 t)))
    by true deep ih = all_inside column (lines_of breaks12 t) (first_inside breaks12 column t deep) ih
    by false deep ih = ap (λ ls. list_all (λ line. belongs_to_entry true column line.text) ls) (after_extended c (lines_of breaks12 t)) ∙ ih
