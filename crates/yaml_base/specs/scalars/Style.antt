-- The style that is chosen for a scalar, and whether the bare tag `!` is written.
-- Source: libyaml's emitter.
use Rattle.std.specs.Prelude.{Bool, true, false, ◌||◌, ◌&&◌, not, if◌then◌else◌}
use Rattle.yaml_base.specs.scalars.Analysis.{Allowances}
use Rattle.yaml_base.specs.Event.{ScalarStyle, any_style, plain, single_quoted, double_quoted, literal, folded}

-- the style that is written, and whether the bare tag precedes it
pub record ChosenStyle : Type 0 where
  pub style : ScalarStyle
  pub bare : Bool

-- true if a scalar lacks a written tag and both flags
abbrev pub lacks_tag_and_flags : (tag_written plain_implicit quoted_implicit : Bool) → Bool
lacks_tag_and_flags tag_written plain_implicit quoted_implicit =
    not tag_written && not plain_implicit && not quoted_implicit

-- true of plain
abbrev pub is_plain : ScalarStyle → Bool
is_plain plain = true
is_plain _ = false

-- true of the block styles
abbrev pub is_block : ScalarStyle → Bool
is_block literal = true
is_block folded = true
is_block _ = false

-- true of literal
abbrev pub is_literal : ScalarStyle → Bool
is_literal literal = true
is_literal _ = false

-- the requested style: double quotes if they are needed, else the event's style; any is plain
abbrev pub requested_style : (must_be_double : Bool) → ScalarStyle → ScalarStyle
requested_style true style = double_quoted
requested_style false any_style = plain
requested_style false style = style

-- single quotes if the value allows them, else double quotes
abbrev pub quoted_style : Allowances → ScalarStyle
quoted_style allowed = if allowed.single_quoted_allowed then single_quoted else double_quoted

-- the requested style if it fits; quotes in place of plain, double quotes in place of a block style
abbrev pub fitting_style : Allowances → (plain_fits block_fits : Bool) → ScalarStyle → ScalarStyle
fitting_style allowed plain_fits block_fits plain = if plain_fits then plain else quoted_style allowed
fitting_style allowed plain_fits block_fits single_quoted = quoted_style allowed
fitting_style allowed plain_fits block_fits literal = if block_fits then literal else double_quoted
fitting_style allowed plain_fits block_fits folded = if block_fits then folded else double_quoted
fitting_style allowed plain_fits block_fits _ = double_quoted

-- true if plain fits: the value allows it in its context and isn't empty in flow or as a simple key, and a tag or the flag distinguishes
-- the scalar from a quoted one
abbrev pub fits_plain : Allowances → (empty tag_written plain_implicit flow simple_key : Bool) → Bool
fits_plain allowed empty tag_written plain_implicit flow simple_key =
    (if flow then allowed.flow_plain_allowed else allowed.block_plain_allowed)
    && not (empty && (flow || simple_key))
    && (tag_written || plain_implicit)

-- the chosen style: double quotes are needed in canonical mode, and for a simple key that holds a break; block styles fit outside flow and
-- simple keys; the bare tag distinguishes a quoted scalar that has no tag and no flag
abbrev pub chosen :
    Allowances → ScalarStyle
    → (empty tag_written plain_implicit quoted_implicit flow simple_key canonical : Bool) → ChosenStyle
chosen allowed asked empty tag_written plain_implicit quoted_implicit flow simple_key canonical =
    let style =
    fitting_style allowed
    (fits_plain allowed empty tag_written plain_implicit flow simple_key)
    (allowed.block_allowed && not flow && not simple_key)
    (requested_style (canonical || (simple_key && allowed.multiline)) asked) in
    record { style = style; bare = not tag_written && not quoted_implicit && not (is_plain style) }
