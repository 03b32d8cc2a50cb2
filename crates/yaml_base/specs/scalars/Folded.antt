-- The layout of a folded scalar: that of literal, after its long lines are cut.
-- Source, unless a definition names its own: libyaml's emitter.
use Rattle.std.specs.Prelude.{ℕ, Bool, true, false, Option, None, Some, List, [], ◌∷◌, ◌++◌, ◌==◌, ◌&&◌, ◌+◌, not, nat_lt, if◌then◌else◌}
use Rattle.yaml_base.specs.Characters.{Text, is_space, line_feed}
use Rattle.yaml_base.specs.scalars.Analysis.{begins_with}
use Rattle.yaml_base.specs.Cursor.{Cursor, Rendered, render_then, render_text, space_if}
use Rattle.yaml_base.specs.scalars.Lines.{Part, line, line_break, begun, parts}
use Rattle.yaml_base.specs.scalars.BlockHeader.{block_body}
use Rattle.yaml_base.specs.scalars.Literal.{indented}

-- true of a column past the limit; without a limit none is
abbrev pub is_past_limit : Option ℕ → ℕ → Bool
is_past_limit None column = false
is_past_limit (Some width) column = nat_lt width column

-- true if a fold takes the place of a space: the last of a run, at a column past the limit
abbrev pub folds : (limit : Option ℕ) (column c : ℕ) (rest : Text) → Bool
folds limit column c rest = is_space c && not (begins_with is_space rest) && is_past_limit limit column

-- a line from a column on, cut at its folds; after a fold it goes on at the indentation
abbrev pub cut_from : (limit : Option ℕ) (indent column : ℕ) → Text → List Part
cut_from limit indent column [] = line [] ∷ []
cut_from limit indent column (c ∷ rest) =
    let fold = folds limit column c rest in
    let further = cut_from limit indent (if fold then indent else column + 1) rest in
    if fold then line [] ∷ line_break line_feed ∷ further else begun c further

-- a line as it is cut; one that begins with a space is never folded (YAML 1.1, section 9.3.2 Folded, l-nb-spaced-lines(n); libyaml folds
-- it, which is a fault)
abbrev pub cut_line : (limit : Option ℕ) (indent : ℕ) → Text → List Part
cut_line limit indent text = if begins_with is_space text then line text ∷ [] else cut_from limit indent indent text

-- true if there is a next line and it doesn't begin with a space (YAML 1.1, section 9.3.2 Folded, l-nb-folded-lines(n))
abbrev pub next_line_unindented : List Part → Bool
next_line_unindented [] = false
next_line_unindented (line text ∷ rest) = not (begins_with is_space text)
next_line_unindented (line_break b ∷ rest) = next_line_unindented rest

-- the value's parts as they are written, after a line that doesn't begin with a space or not: a LF between
-- two lines that don't is doubled, since alone it would read as a space
-- (YAML 1.1, sections 6.5 Line Folding and 9.3.2 Folded, b-l-folded-as-space, l-nb-folded-lines(n))
abbrev pub folded_parts : (limit : Option ℕ) (indent : ℕ) (after_even : Bool) → List Part → List Part
folded_parts limit indent after_even [] = []
folded_parts limit indent after_even (line text ∷ rest) =
    cut_line limit indent text ++ folded_parts limit indent (not (begins_with is_space text)) rest
folded_parts limit indent after_even (line_break b ∷ rest) =
    (if after_even && b == line_feed && next_line_unindented rest then line_break b ∷ line_break b ∷ [] else line_break b ∷ [])
    ++ folded_parts limit indent false rest

-- `>`, the header and the value's lines (YAML 1.1, section 9.3.2 Folded, c-l+folded(n))
abbrev pub folded_body : (limit : Option ℕ) (indent best_indent : ℕ) (value : Text) → Cursor → Rendered
folded_body limit indent best_indent value cursor =
    block_body 62 best_indent value (indented indent (folded_parts limit indent false (parts value))) cursor

-- a separating space if one is needed, and the body
abbrev pub render_folded : (limit : Option ℕ) (indent best_indent : ℕ) (value : Text) → Cursor → Rendered
render_folded limit indent best_indent value cursor =
    render_then (render_text (space_if true cursor) cursor) (folded_body limit indent best_indent value)
