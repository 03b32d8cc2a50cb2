-- Texts in which another break, or spaces that reach past a column, follow each break.
use Rattle.yaml_base.proofs.Common.{or_from}
use Rattle.yaml_base.proofs.Common.{nat_tests, suc, zero, ℕ, ◌≤◌, Bool, false, not, true, ◌&&◌, ◌||◌, [], ◌++◌, ◌∷◌, refl, ◌≡◌, ap, arith}
use Rattle.yaml_base.proofs.Common.{and_parts, and_from, or_parts, false≢true, list_all, Text, line_feed, is_blank, Cursor, new_line}
use Rattle.yaml_base.proofs.Common.{space_if, is_read_break, is_read_white, begins_with_spaces, has_deep_lines, ends_white, lines_of}
use Rattle.yaml_base.{proofs.Common.belongs_to_entry, proofs.Common.spaces, proofs.stream_lines.StreamInside.AllInside}
use Rattle.yaml_base.{proofs.stream_lines.StreamLineLaws.OneLine, specs.reading.TidyText.begins_with_break, proofs.stream_lines.StreamClosed.spaces_line}
use Rattle.yaml_base.proofs.stream_lines.StreamTidyLaws.{first_text, lines_after_first, spaces_inside}

-- the text after each break of a text passes a test
abbrev pub after_breaks : Bool → (Text → Bool) → Text → Bool
after_breaks breaks12 test [] = true
after_breaks breaks12 test (c ∷ rest) = (not (is_read_break breaks12 c) || test rest) && after_breaks breaks12 test rest

-- a text begins with a break, or with so many spaces
abbrev pub begins_deep : Bool → ℕ → Text → Bool
begins_deep breaks12 count text = begins_with_break breaks12 text || begins_with_spaces count text

-- after each break of a text comes another, or that many spaces
abbrev pub Deep : Bool → ℕ → Text → Type 0
Deep breaks12 count text = after_breaks breaks12 (begins_deep breaks12 count) text ≡ true

-- Tests

-- a test that more text at the end doesn't change
abbrev pub Keeps : (Text → Bool) → Type 0
Keeps test = (a b : Text) → test a ≡ true → test (a ++ b) ≡ true

-- a text that passes one test passes another
abbrev pub Implies : (Text → Bool) → (Text → Bool) → Type 0
Implies test other = (t : Text) → test t ≡ true → other t ≡ true

-- two such texts
pub after_both : (breaks12 : Bool) (test : Text → Bool) → Keeps test → (a b : Text) → after_breaks breaks12 test a ≡ true → after_breaks breaks12 test b ≡ true
    → after_breaks breaks12 test (a ++ b) ≡ true
after_both breaks12 test keeps [] b h k = k
after_both breaks12 test keeps (c ∷ a) b h k = grind (arith, and_parts, and_from, or_parts, or_from, after_both breaks12 test keeps a b)

-- a text that passes a test after each break passes a weaker one there
pub after_weaker : (breaks12 : Bool) (test other : Text → Bool) → Implies test other → (t : Text) → after_breaks breaks12 test t ≡ true
    → after_breaks breaks12 other t ≡ true
after_weaker breaks12 test other weaker [] h = refl
after_weaker breaks12 test other weaker (c ∷ t) h = grind (arith, and_parts, and_from, or_parts, or_from, after_weaker breaks12 test other weaker t)

-- a text without a break
pub after_line_of : (breaks12 : Bool) (test : Text → Bool) (t : Text) → OneLine breaks12 t → after_breaks breaks12 test t ≡ true
after_line_of breaks12 test [] one = refl
after_line_of breaks12 test (c ∷ t) one = grind (arith, and_parts, and_from, or_parts, or_from, after_line_of breaks12 test t)

-- Deep texts

spaces_keep : (count : ℕ) (a b : Text) → begins_with_spaces count a ≡ true → begins_with_spaces count (a ++ b) ≡ true
spaces_keep zero a b h = refl
spaces_keep (suc count) [] b h = absurd (false≢true h)
spaces_keep (suc count) (c ∷ a) b h = grind (arith, and_parts, and_from, or_parts, or_from, spaces_keep count a b)

-- more text doesn't change how a text begins
pub deep_keeps : (breaks12 : Bool) (count : ℕ) → Keeps (begins_deep breaks12 count)
deep_keeps breaks12 zero [] b h = grind (arith)
deep_keeps breaks12 (suc count) [] b h = absurd (false≢true h)
deep_keeps breaks12 count (c ∷ a) b h = by (is_read_break breaks12 c) h
  where
    by : (x : Bool) → (x || begins_with_spaces count (c ∷ a)) ≡ true → (x || begins_with_spaces count (c ∷ (a ++ b))) ≡ true
    by true h = refl
    by false h = spaces_keep count (c ∷ a) b h

-- two deep texts
pub deep_both : (breaks12 : Bool) (count : ℕ) (a b : Text) → Deep breaks12 count a → Deep breaks12 count b → Deep breaks12 count (a ++ b)
deep_both breaks12 count a b h k = after_both breaks12 (begins_deep breaks12 count) (deep_keeps breaks12 count) a b h k

-- a text on one line
pub deep_line : (breaks12 : Bool) (count : ℕ) (t : Text) → OneLine breaks12 t → Deep breaks12 count t
deep_line breaks12 count t one = after_line_of breaks12 (begins_deep breaks12 count) t one

spaces_begin : (count at : ℕ) → count ≤ at → begins_with_spaces count (spaces at) ≡ true
spaces_begin zero at le = refl
spaces_begin (suc count) zero le = absurd (omega arith)
spaces_begin (suc count) (suc at) le = spaces_begin count at (omega arith)

-- a new line at such a column
pub deep_new_line : (breaks12 : Bool) (count at : ℕ) (cursor : Cursor) → count ≤ at → Deep breaks12 count (new_line at cursor).text
deep_new_line breaks12 count at cursor le = grind (arith, nat_tests, and_from, deep_line, spaces_line, false≢true, spaces_begin)

-- Tidy texts

-- no break ends a text that doesn't end white
pub deep_tidy : (breaks12 : Bool) (count : ℕ) (t : Text) → has_deep_lines breaks12 count t ≡ true → ends_white breaks12 t ≡ false → Deep breaks12 count t
deep_tidy breaks12 count [] h e = refl
deep_tidy breaks12 count (c ∷ []) h e =
    ap (λ x. (not x || begins_deep breaks12 count []) && true) (or_parts (is_blank c) (is_read_break breaks12 c) e).1
deep_tidy breaks12 count (c ∷ d ∷ t) h e = grind (arith, and_parts, and_from, or_parts, or_from, deep_tidy breaks12 count (d ∷ t))

-- a text ends as its last character
pub ends_as_last : (breaks12 : Bool) (t : Text) (c : ℕ) → ends_white breaks12 (t ++ (c ∷ [])) ≡ is_read_white breaks12 c
ends_as_last breaks12 [] c = refl
ends_as_last breaks12 (d ∷ []) c = refl
ends_as_last breaks12 (d ∷ e ∷ t) c = ends_as_last breaks12 (e ∷ t) c

-- the prefix of a text on one line
pub line_prefix : (breaks12 : Bool) (a b : Text) → OneLine breaks12 (a ++ b) → OneLine breaks12 a
line_prefix breaks12 [] b one = refl
line_prefix breaks12 (c ∷ a) b one = grind (arith, and_parts, and_from, or_parts, or_from, line_prefix breaks12 a b)

-- the space before a word
pub space_line : (breaks12 need : Bool) (cursor : Cursor) → OneLine breaks12 (space_if need cursor)
space_line breaks12 need cursor = grind (arith, spaces_line)

-- Lines

-- the lines of a text and of the break that ends it, after the first, are so if the text after each of its breaks is
pub lines_pass : (breaks12 : Bool) (test line_test : Text → Bool)
    → ((u : Text) → test u ≡ true → line_test (first_text (lines_of breaks12 (u ++ (line_feed ∷ [])))) ≡ true)
    → (t : Text) → after_breaks breaks12 test t ≡ true
    → list_all (λ line. line_test line.text) (lines_after_first (lines_of breaks12 (t ++ (line_feed ∷ [])))) ≡ true
lines_pass breaks12 test line_test first [] h = refl
lines_pass breaks12 test line_test first (c ∷ t) h = grind (arith, and_parts, and_from, or_parts, or_from, lines_pass breaks12 test line_test first t)

-- so many spaces after a break begin a line inside the column before them
pub deep_first : (breaks12 : Bool) (column : ℕ) (u : Text) → begins_deep breaks12 (suc column) u ≡ true
    → belongs_to_entry true column (first_text (lines_of breaks12 (u ++ (line_feed ∷ [])))) ≡ true
deep_first breaks12 column u h = grind (arith, nat_tests, false≢true, spaces_inside, spaces_keep)

-- a deep text's lines lie inside the column
pub deep_inside : (breaks12 : Bool) (column : ℕ) (t : Text) → Deep breaks12 (suc column) t
    → AllInside true column (lines_after_first (lines_of breaks12 (t ++ (line_feed ∷ []))))
deep_inside breaks12 column t h =
    lines_pass breaks12 (begins_deep breaks12 (suc column)) (belongs_to_entry true column) (λ u k. deep_first breaks12 column u k) t h
