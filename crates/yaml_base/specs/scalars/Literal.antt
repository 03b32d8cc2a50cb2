-- The layout of a literal scalar.
-- Source, unless a definition names its own: libyaml's emitter.
use Rattle.std.specs.Prelude.{ℕ, true, List, [], ◌∷◌, ◌++◌, replicate}
use Rattle.yaml_base.specs.Characters.{Text, space}
use Rattle.yaml_base.specs.Cursor.{Cursor, Rendered, render_then, render_text, space_if}
use Rattle.yaml_base.specs.scalars.Lines.{Part, line, line_break, parts}
use Rattle.yaml_base.specs.scalars.BlockHeader.{block_body}

-- each line after its indentation, each break once (YAML 1.1, section 6.1 Indentation Spaces, s-indent(n))
abbrev pub indented : ℕ → List Part → Text
indented indent [] = []
indented indent (line text ∷ rest) = replicate indent space ++ text ++ indented indent rest
indented indent (line_break b ∷ rest) = b ∷ indented indent rest

-- `|`, the header and the value's lines (YAML 1.1, section 9.3.1 Literal, c-l+literal(n))
abbrev pub literal_body : (indent best_indent : ℕ) (value : Text) → Cursor → Rendered
literal_body indent best_indent value cursor = block_body 124 best_indent value (indented indent (parts value)) cursor

-- a separating space if one is needed, and the body
abbrev pub render_literal : (indent best_indent : ℕ) (value : Text) → Cursor → Rendered
render_literal indent best_indent value cursor =
    render_then (render_text (space_if true cursor) cursor) (literal_body indent best_indent value)
