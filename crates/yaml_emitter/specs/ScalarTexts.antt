-- A scalar's text after its lead.
use Rattle.std.specs.Prelude.{ℕ, Bool, true, ◌&&◌, not, None, if◌then◌else◌}
use Rattle.yaml_base.specs.scalars.Analysis.{is_empty}
use Rattle.yaml_base.specs.Characters.{Text}
use Rattle.yaml_base.specs.Cursor.{Cursor, Rendered, render_then}
use Rattle.yaml_base.specs.Event.{ScalarStyle, literal, folded}
use Rattle.yaml_base.specs.Layout.{Place, render_body, deeper, render_separation}
use Rattle.yaml_base.specs.Settings.{Effective}

-- the separating space and the body; a simple key has no fold
abbrev pub render_scalar_text : ScalarStyle → Effective → (in_flow simple : Bool) → (indent : ℕ) → Text → Cursor → Rendered
render_scalar_text style s in_flow simple indent value cursor =
    render_then (render_separation style in_flow value cursor)
    (render_body style s (if simple then None else s.width) indent value)

-- a scalar's text at its place: further lines begin one indent further in
abbrev pub text_at : ScalarStyle → Effective → Place → (simple : Bool) → Text → Cursor → Rendered
text_at style s place simple value = render_scalar_text style s place.in_flow simple (deeper s.indent place.column) value

-- block styles are for values that aren't empty, and not for simple keys
abbrev pub style_fits : ScalarStyle → Text → (simple : Bool) → Bool
style_fits literal value simple = not (is_empty value) && not simple
style_fits folded value simple = not (is_empty value) && not simple
style_fits _ value simple = true
