-- The header of literal and folded scalars.
-- Source, unless a definition names its own: libyaml's emitter.
use Rattle.std.specs.Prelude.{ℕ, Bool, true, false, Option, None, Some, [], ◌∷◌, ◌||◌, ◌+◌, ◌≡◌, if◌then◌else◌}
use Rattle.yaml_base.specs.Characters.{Text, is_blank, is_break, line_feed}
use Rattle.yaml_base.specs.scalars.Analysis.{begins_with}
use Rattle.yaml_base.specs.Cursor.{Cursor, Rendered, render_nothing, render_then, render_text, with_flags, indicator}
use Rattle.yaml_base.specs.declared.scalars.Ending.{Ending}
use Rattle.yaml_base.specs.declared.scalars.Ending.TheVariants.{WithoutBreak, OneBreak, MoreBreaks}

-- the ending of a text; its last two characters show it
abbrev pub ending : Text → Ending
ending [] = WithoutBreak
ending (c ∷ []) = if is_break c then MoreBreaks else WithoutBreak
ending (c ∷ d ∷ []) = if is_break d then (if is_break c then MoreBreaks else OneBreak) else WithoutBreak
ending (c ∷ d ∷ e ∷ rest) = ending (d ∷ e ∷ rest)

-- true if the text's first character is a blank or a break
abbrev pub begins_blank : Text → Bool
begins_blank value = begins_with (λ c. is_blank c || is_break c) value

-- the digit of the indent, if the first line would not show the indentation (YAML 1.1, section 9.2.2 Block Indentation Indicator,
-- c-indentation-indicator)
abbrev pub indentation_hint : ℕ → Text → Text
indentation_hint best_indent value = if begins_blank value then (48 + best_indent) ∷ [] else []

-- `-`, nothing or `+`: the treatment of the final breaks (YAML 1.1, section 9.2.3 Block Chomping Indicator, c-chomping-indicator(t))
abbrev pub ending_hint : Ending → Text
ending_hint WithoutBreak = 45 ∷ []
ending_hint OneBreak = []
ending_hint MoreBreaks = 43 ∷ []

-- a hint, if there is one
abbrev pub render_hint : Text → Cursor → Rendered
render_hint [] cursor = render_nothing cursor
render_hint (c ∷ rest) cursor = indicator (c ∷ rest) false false false cursor

-- both hints
abbrev pub render_hints : (best_indent : ℕ) (value : Text) → Cursor → Rendered
render_hints best_indent value cursor =
    render_then (render_hint (indentation_hint best_indent value) cursor) (render_hint (ending_hint (ending value)))

-- the style's indicator, the hints and a break (YAML 1.1, section 9.2 Block Scalar Header, c-b-block-header)
abbrev pub render_header : (symbol best_indent : ℕ) (value : Text) → Cursor → Rendered
render_header symbol best_indent value cursor =
    render_then (indicator (symbol ∷ []) false false false cursor)
    (λ signed. render_then (render_hints best_indent value signed)
    (λ hinted. with_flags true true (render_text (line_feed ∷ []) hinted)))

-- the open-ended state after a header: 2 if `+` keeps all final breaks, so that the document's end must be written
abbrev pub ending_open_ended : Ending → ℕ
ending_open_ended WithoutBreak = 0
ending_open_ended OneBreak = 0
ending_open_ended MoreBreaks = 2

-- the open-ended state after a value's header
abbrev pub header_open_ended : Text → ℕ
header_open_ended value = ending_open_ended (ending value)

-- true if the value's last character is a break
abbrev pub ends_in_break : Ending → Bool
ends_in_break WithoutBreak = false
ends_in_break OneBreak = true
ends_in_break MoreBreaks = true

-- lines as they are rendered under a value's header: after them the cursor is in white space, and in indentation if the value ends in a
-- break
abbrev pub render_lines : (value lines : Text) → Cursor → Rendered
render_lines value lines cursor = with_flags true (ends_in_break (ending value)) (render_text lines cursor)

-- a block scalar's text: its header, and then its lines (YAML 1.1, section 9.3 Block Scalar Styles, c-l+literal(n), c-l+folded(n))
abbrev pub block_body : (symbol best_indent : ℕ) (value lines : Text) → Cursor → Rendered
block_body symbol best_indent value lines cursor =
    render_then (render_header symbol best_indent value cursor) (render_lines value lines)

-- the entries of the enclosing block are at the scalar's indentation less the indent; at the root there are none, and the two are equal
-- (this project)
abbrev pub Encloses : (indent best_indent : ℕ) → (column : Option ℕ) → Type 0
Encloses indent best_indent None = indent ≡ best_indent
Encloses indent best_indent (Some column) = indent ≡ column + best_indent
