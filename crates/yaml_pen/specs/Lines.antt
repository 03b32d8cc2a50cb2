-- The two parts of a new line.
use Rattle.std.specs.Prelude.{ℕ, [], ◌∷◌, ◌-◌, replicate, if◌then◌else◌}
use Rattle.yaml_base.specs.Characters.{line_feed, space}
use Rattle.yaml_base.specs.Cursor.{Cursor, Rendered, breaks_line, new_line, render_text, render_nothing}

-- the break that a new line at a column needs
abbrev pub render_line_break : ℕ → Cursor → Rendered
render_line_break at cursor = if breaks_line at cursor then render_text (line_feed ∷ []) cursor else render_nothing cursor

-- spaces up to a column
abbrev pub spaces_to : ℕ → Cursor → Rendered
spaces_to at cursor = render_text (replicate (at - cursor.column) space) cursor

-- the text of a new line, and the cursor at its column with the flags that were there
abbrev pub line_begun : ℕ → Cursor → Rendered
line_begun at cursor = record { text = (new_line at cursor).text; cursor = record cursor { column = at } }
