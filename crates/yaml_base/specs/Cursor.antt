-- The cursor, and the texts that move it (libyaml's own rules).
use Rattle.std.specs.Prelude.{ℕ, Bool, true, false, Option, None, Some, [], ◌∷◌, ◌++◌, ◌==◌, ◌||◌, ◌&&◌, ◌+◌, ◌-◌, not, nat_lt, replicate, if◌then◌else◌}
use Rattle.yaml_base.specs.Characters.{Text, is_break, line_feed, space}

-- the column of the next character, counted in characters; whether white space precedes it; and whether only indentation, and indicators
-- that may be part of indentation, precede it in its line
pub record Cursor : Type 0 where
  pub column : ℕ
  pub whitespace : Bool
  pub indention : Bool

-- a text, whose line breaks are LF, and the cursor after it
pub record Rendered : Type 0 where
  pub text : Text
  pub cursor : Cursor

-- the cursor at the start of a stream
abbrev pub first_cursor : Cursor
first_cursor = record { column = 0; whitespace = true; indention = true }

-- no text, and the cursor as it was
abbrev pub render_nothing : Cursor → Rendered
render_nothing cursor = record { text = []; cursor = cursor }

-- a text, and then the text that is rendered at the cursor after it
abbrev pub render_then : Rendered → (Cursor → Rendered) → Rendered
render_then first next =
    let second = next first.cursor in record { text = first.text ++ second.text; cursor = second.cursor }

-- the column after a character at this column: one more, or 0 after a break
abbrev pub next_column : ℕ → ℕ → ℕ
next_column character column = if is_break character then 0 else column + 1

-- the column after a text
abbrev pub column_after : Text → ℕ → ℕ
column_after [] column = column
column_after (character ∷ rest) column = column_after rest (next_column character column)

-- a text by itself: it moves the column and leaves the flags
abbrev pub render_text : Text → Cursor → Rendered
render_text text cursor =
    record { text = text; cursor = record cursor { column = column_after text cursor.column } }

-- a rendered text with other flags after it
abbrev pub with_flags : Bool → Bool → Rendered → Rendered
with_flags whitespace indention rendered =
    record { text = rendered.text; cursor = record { column = rendered.cursor.column; whitespace = whitespace; indention = indention } }

-- true if a new line at a column needs a break: more than indentation precedes the cursor in its line, or the cursor is past that column,
-- or it is at that column and no white space precedes it
abbrev pub breaks_line : ℕ → Cursor → Bool
breaks_line at cursor =
    not cursor.indention || nat_lt at cursor.column || (cursor.column == at && not cursor.whitespace)

-- a new line that begins at a column: a break if one is needed, then spaces up to the column
abbrev pub new_line : ℕ → Cursor → Rendered
new_line at cursor =
    record {
      text = if breaks_line at cursor then line_feed ∷ replicate at space else replicate (at - cursor.column) space;
      cursor = record { column = at; whitespace = true; indention = true };
    }

-- a space, if one is needed and none precedes
abbrev pub space_if : Bool → Cursor → Text
space_if need cursor = if need && not cursor.whitespace then space ∷ [] else []

-- an indicator, with a space before it if one is needed, and the flags after it
abbrev pub indicator : Text → Bool → Bool → Bool → Cursor → Rendered
indicator symbol need whitespace indention cursor =
    with_flags whitespace (cursor.indention && indention) (render_text (space_if need cursor ++ symbol) cursor)

-- a name, after which both flags are off
abbrev pub render_name : Text → Cursor → Rendered
render_name name cursor = with_flags false false (render_text name cursor)

-- true if the column is past the width; without a width it never is
abbrev pub is_past_width : Option ℕ → Cursor → Bool
is_past_width None cursor = false
is_past_width (Some width) cursor = nat_lt width cursor.column
