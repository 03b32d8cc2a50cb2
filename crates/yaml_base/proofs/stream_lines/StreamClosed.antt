-- How a node's text leaves off: at a line's start, or before the break that the next new line begins with.
use Rattle.yaml_base.proofs.Common.{or_from}
use Rattle.yaml_base.proofs.Common.{suc, zero, ℕ, ◌+◌, ◌≤◌, if◌then◌else◌, Bool, false, true, ◌||◌, List, [], ◌++◌, ◌∷◌, refl, ◌≡◌, le-ltb, append-nil, ap}
use Rattle.yaml_base.proofs.Common.{sym, ◌∙◌, arith, and_parts, and_from, or_parts, list_any, Text, line_feed, space, Cursor, Rendered, new_line}
use Rattle.yaml_base.proofs.stream_lines.{StreamTidyLaws.lines_after_first, StreamInside.inside_deeper, StreamInside.AllInside}
use Rattle.yaml_base.proofs.Common.{is_read_break, Line, prepend_to_first_line, prepend_character, lines_of, ends_indicator, belongs_to_entry, spaces}
use Rattle.yaml_base.proofs.stream_lines.StreamLineLaws.{is_closed, OneLine, break_line}

-- Cursors

-- the break that a new line begins with, which is there already if indentation goes on
abbrev pub closing : Cursor → Text
closing cursor = if cursor.indention then [] else line_feed ∷ []

-- a text up to the end of its last line
abbrev pub closed : Rendered → Text
closed rendered = rendered.text ++ closing rendered.cursor

-- indentation goes on only if a line begins
abbrev pub Settled : Cursor → Type 0
Settled cursor = cursor.indention ≡ true → (cursor.column ≡ 0) × (cursor.whitespace ≡ true)

-- a new line closes the line before it and begins with its spaces
pub new_line_closes : (e : ℕ) (cursor : Cursor) → Settled cursor → (new_line e cursor).text ≡ closing cursor ++ spaces e
new_line_closes e cursor settled = grind (arith, le-ltb)

-- the cursor after the indicator of an entry at a column
abbrev pub indicator_cursor : ℕ → Cursor
indicator_cursor e = record { column = e + 1; whitespace = false; indention = true }

-- the cursor at which an entry at a column begins
abbrev pub margin_cursor : ℕ → Cursor
margin_cursor e = record { column = e; whitespace = true; indention = true }

-- Lines

-- spaces are on one line
pub spaces_line : (breaks12 : Bool) (k : ℕ) → OneLine breaks12 (spaces k)
spaces_line breaks12 zero = refl
spaces_line breaks12 (suc k) = ap (λ x. x || list_any (is_read_break breaks12) (spaces k)) (break_line breaks12 space refl) ∙ spaces_line breaks12 k

-- a character that breaks no line
pub character_line : (breaks12 : Bool) (c : ℕ) (a : Text) → is_read_break breaks12 c ≡ false → OneLine breaks12 a → OneLine breaks12 (c ∷ a)
character_line breaks12 c a h one = ap (λ x. x || list_any (is_read_break breaks12) a) h ∙ one

-- a text whose lines begin with this one
pub record Begins (breaks12 : Bool) (text : Text) : Type 0 where
  pub head : Text
  pub ending : Text
  pub rest : List Line
  pub is : lines_of breaks12 text ≡ record { text = head; ending = ending } ∷ rest

-- any text that isn't empty
pub begins_cons : (breaks12 : Bool) (c : ℕ) (t : Text) → Begins breaks12 (c ∷ t)
begins_cons breaks12 c t = by (is_read_break breaks12 c) refl (lines_of breaks12 t) refl
  where
    by : (x : Bool) → is_read_break breaks12 c ≡ x → (lines : List Line) → lines_of breaks12 t ≡ lines → Begins breaks12 (c ∷ t)
    by true h lines e = record { head = []; ending = c ∷ []; rest = lines_of breaks12 t; is = ap (λ x. prepend_character x c (lines_of breaks12 t)) h }
    by false h [] e = record {
      head = c ∷ [];
      ending = [];
      rest = [];
      is = ap (λ x. prepend_character x c (lines_of breaks12 t)) h
          ∙ ap (prepend_to_first_line c) e;
    }
    by false h (line ∷ rest) e = record {
      head = c ∷ line.text;
      ending = line.ending;
      rest = rest;
      is = ap (λ x. prepend_character x c (lines_of breaks12 t)) h ∙ ap (prepend_to_first_line c) e;
    }

-- a text on one line precedes the first line of the text after it
pub lines_behind : (breaks12 : Bool) (a t head ending : Text) (rest : List Line) → OneLine breaks12 a
    → lines_of breaks12 t ≡ record { text = head; ending = ending } ∷ rest
    → lines_of breaks12 (a ++ t) ≡ record { text = a ++ head; ending = ending } ∷ rest
lines_behind breaks12 [] t head ending rest one is = is
lines_behind breaks12 (c ∷ a) t head ending rest one is = grind (arith, and_parts, and_from, or_parts, or_from, lines_behind breaks12 a t head ending rest)

-- it moves no line but the first
pub after_line : (breaks12 : Bool) (a t : Text) → OneLine breaks12 a
    → lines_after_first (lines_of breaks12 (a ++ t)) ≡ lines_after_first (lines_of breaks12 t)
after_line breaks12 [] t one = refl
after_line breaks12 (c ∷ a) t one =
    let parts : (is_read_break breaks12 c ≡ false) × OneLine breaks12 a = or_parts (is_read_break breaks12 c) (list_any (is_read_break breaks12) a) one in
    ap (λ x. lines_after_first (prepend_character x c (lines_of breaks12 (a ++ t)))) parts.0
    ∙ prepend_to_elements (lines_of breaks12 (a ++ t)) ∙ after_line breaks12 a t parts.1
  where
    prepend_to_elements : (lines : List Line) → lines_after_first (prepend_to_first_line c lines) ≡ lines_after_first lines
    prepend_to_elements [] = refl
    prepend_to_elements (line ∷ rest) = refl

-- a text on one line, and its break
pub lines_broken : (breaks12 : Bool) (a t : Text) → OneLine breaks12 a
    → lines_of breaks12 (a ++ (line_feed ∷ t)) ≡ record { text = a; ending = line_feed ∷ [] } ∷ lines_of breaks12 t
lines_broken breaks12 a t one =
    lines_behind _ a _ [] _ _ one refl ∙ ap (λ h. record { text = h; ending = line_feed ∷ [] } ∷ lines_of breaks12 t) (append-nil a)

-- Texts that end with a break

-- a text before one that ends with a break
pub closed_behind : (breaks12 : Bool) (a : Text) (c : ℕ) (t : Text) → is_closed breaks12 (c ∷ t) ≡ true → is_closed breaks12 (a ++ (c ∷ t)) ≡ true
closed_behind breaks12 [] c t h = h
closed_behind breaks12 (d ∷ []) c t h = h
closed_behind breaks12 (d ∷ e ∷ a) c t h = closed_behind breaks12 (e ∷ a) c t h

-- a text ends as the text at its end does
pub closed_alike : (breaks12 : Bool) (a b : Text) (c : ℕ) (t : Text) → is_closed breaks12 (b ++ (c ∷ t)) ≡ true → is_closed breaks12 (a ++ (c ∷ t)) ≡ true
closed_alike breaks12 a b c t h = closed_behind breaks12 a c t (sym (ends b) ∙ h)
  where
    ends : (b : Text) → is_closed breaks12 (b ++ (c ∷ t)) ≡ is_closed breaks12 (c ∷ t)
    ends [] = refl
    ends (d ∷ []) = refl
    ends (d ∷ e ∷ b) = ends (e ∷ b)

-- two that do, or are empty
pub closed_both : (breaks12 : Bool) (a t : Text) → is_closed breaks12 a ≡ true → is_closed breaks12 t ≡ true → is_closed breaks12 (a ++ t) ≡ true
closed_both breaks12 a [] h k = ap (is_closed breaks12) (append-nil a) ∙ h
closed_both breaks12 a (c ∷ t) h k = closed_behind breaks12 a c t k

-- Inside

-- one column more for a `-` at the column of a sequence
abbrev pub rank : Bool → ℕ
rank true = 1
rank false = 0

-- a `-` at a column of no sequence farther out
pub dash_inside : (s : Bool) (d e : ℕ) (t : Text) → d + rank s ≤ e → ends_indicator t ≡ true → belongs_to_entry s d (spaces e ++ (0x2D ∷ t)) ≡ true
dash_inside true d e t h k = inside_deeper true d e (0x2D ∷ t) (omega arith)
dash_inside false zero zero t h k = k
dash_inside false zero (suc e) t h k = refl
dash_inside false (suc d) zero t h k = absurd (omega arith)
dash_inside false (suc d) (suc e) t h k = dash_inside false d e t (omega arith) k

-- lines, and then others
pub inside_both : (s : Bool) (d : ℕ) (a b : List Line) → AllInside s d a → AllInside s d b → AllInside s d (a ++ b)
inside_both s d [] b h k = k
inside_both s d (line ∷ a) b h k = grind (arith, and_parts, and_from, or_parts, or_from, inside_both s d a b)
