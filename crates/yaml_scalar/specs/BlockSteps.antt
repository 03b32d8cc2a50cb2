-- The lines of a block scalar one character after another, in the order in which the writer writes them.
use Rattle.std.specs.Prelude.{ℕ, Bool, true, false, [], ◌∷◌, ◌==◌, ◌&&◌, not, Option, if◌then◌else◌}
use Rattle.yaml_base.specs.Characters.{Text, is_break, is_space, line_feed}
use Rattle.yaml_base.specs.scalars.BlockHeader.{render_header}
use Rattle.yaml_base.specs.Cursor.{Cursor, Rendered, render_nothing, render_then, render_text, with_flags, space_if, new_line}
use Rattle.yaml_base.specs.scalars.Lines.{parts}
use Rattle.yaml_base.specs.scalars.Folded.{folds, next_line_unindented}
use Rattle.yaml_scalar.specs.WholeRuns.{has_limit, stays_in_line}
use Rattle.yaml_scalar.specs.declared.block_lines.Place.{Place}
use Rattle.yaml_scalar.specs.declared.block_lines.Place.TheVariants.{LineStart, Folding, Fixed}

-- the place in the line that begins with a character
abbrev pub place_in_line : Bool → ℕ → Place
place_in_line folded c = if folded && not (is_space c) then Folding else Fixed

-- the place in the line of a character that isn't a break
abbrev pub within : Bool → Place → ℕ → Place
within folded LineStart c = place_in_line folded c
within folded Folding c = Folding
within folded Fixed c = Fixed

-- the place of the next character
abbrev pub place_after : Bool → Place → ℕ → Place
place_after folded place c = if is_break c then LineStart else within folded place c

-- a character that stays on its line
abbrev pub render_content : ℕ → Cursor → Rendered
render_content c cursor = with_flags cursor.whitespace false (render_text (c ∷ []) cursor)

-- a break
abbrev pub render_broken : ℕ → Cursor → Rendered
render_broken c cursor = with_flags cursor.whitespace true (render_text (c ∷ []) cursor)

-- a fold: the next character goes on in its line
abbrev pub render_fold : ℕ → Cursor → Rendered
render_fold indent cursor = with_flags true false (new_line indent cursor)

-- a fold in place of a space, or another character
abbrev pub render_fold_or_content : Bool → ℕ → ℕ → Cursor → Rendered
render_fold_or_content fold indent c cursor = if fold then render_fold indent cursor else render_content c cursor

-- a line's first character
abbrev pub render_first : ℕ → ℕ → Cursor → Rendered
render_first indent c cursor = render_then (new_line indent cursor) (render_content c)

-- a character that isn't a break, at its place
abbrev pub render_inner : (limit : Option ℕ) (indent : ℕ) → Place → ℕ → Text → Cursor → Rendered
render_inner limit indent LineStart c rest cursor = render_first indent c cursor
render_inner limit indent Folding c rest cursor = render_fold_or_content (folds limit cursor.column c rest) indent c cursor
render_inner limit indent Fixed c rest cursor = render_content c cursor

-- true for a break that is doubled, since it would be folded
abbrev pub is_doubled : Place → ℕ → Text → Bool
is_doubled LineStart c rest = false
is_doubled Folding c rest = c == line_feed && next_line_unindented (parts rest)
is_doubled Fixed c rest = false

-- a break, once or twice
abbrev pub render_block_break : Bool → ℕ → Cursor → Rendered
render_block_break twice c cursor = if twice then render_then (render_text (c ∷ []) cursor) (render_broken c) else render_broken c cursor

-- one character before the rest
abbrev pub render_step : (limit : Option ℕ) (indent : ℕ) → Place → ℕ → Text → Cursor → Rendered
render_step limit indent place c rest cursor =
    if is_break c then render_block_break (is_doubled place c rest) c cursor else render_inner limit indent place c rest cursor

-- true for a character that is written as itself: LF at the start of a line, and in it no space that may become a fold
abbrev pub stays_at : (limit : Option ℕ) → Place → ℕ → Bool
stays_at limit LineStart c = c == line_feed
stays_at limit Folding c = stays_in_line (has_limit limit) false c
stays_at limit Fixed c = stays_in_line false false c

-- a text, from a place on
abbrev pub lines_from : (folded : Bool) (limit : Option ℕ) (indent : ℕ) → Place → Text → Cursor → Rendered
lines_from folded limit indent place [] cursor = render_nothing cursor
lines_from folded limit indent place (c ∷ rest) cursor =
    render_then (render_step limit indent place c rest cursor) (lines_from folded limit indent (place_after folded place c) rest)

-- `>` for folded, `|` for literal
abbrev pub block_indicator_of : Bool → ℕ
block_indicator_of folded = if folded then 62 else 124

-- a header after a separating space if one is needed
abbrev pub separated_header : (folded : Bool) (best_indent : ℕ) (value : Text) → Cursor → Rendered
separated_header folded best_indent value cursor =
    render_then (render_text (space_if true cursor) cursor) (render_header (block_indicator_of folded) best_indent value)

-- the end of a header: a break, after which a line begins
abbrev pub header_end : Cursor → Rendered
header_end cursor = with_flags true true (render_text (line_feed ∷ []) cursor)

-- a block scalar from its separating space on
abbrev pub render_block : (folded : Bool) (limit : Option ℕ) (indent best_indent : ℕ) (value : Text) → Cursor → Rendered
render_block folded limit indent best_indent value cursor =
    render_then (separated_header folded best_indent value cursor) (lines_from folded limit indent LineStart value)
