-- A piece as its text at a cursor, and the open-ended state.
use Rattle.std.specs.Prelude.{ℕ, Bool, true, false, Option, List}
use Rattle.yaml_base.specs.Cursor.{Cursor, Rendered, render_then, new_line}
use Rattle.yaml_base.specs.Event.{Version, TagDirective}
use Rattle.yaml_base.specs.Indicators.{render_indicator, document_end, tag_directive}
use Rattle.yaml_base.specs.Layout.{RenderedPiece, Standing, piece_text, render_if, render_closing_marker, render_version, render_tag_directives}
use Rattle.yaml_base.specs.Layout.{render_document_marker}
use Rattle.yaml_base.specs.Layout.{render_handle}
use Rattle.yaml_base.specs.Percent.{prefix_escaped}
use Rattle.yaml_base.specs.Settings.{Effective}
use Rattle.yaml_emitter.specs.declared.writing.open_ended.OpenEnded.{OpenEnded}
use Rattle.yaml_emitter.specs.declared.writing.open_ended.OpenEnded.TheVariants.{Closed, ImplicitEnd, KeptBreaks}

-- a piece's whole text, and the cursor after it
abbrev pub rendered_of : RenderedPiece → Rendered
rendered_of rendered = record { text = piece_text rendered.piece; cursor = rendered.standing.cursor }

-- a piece's whole text by the cursor before it, with a known open-ended state
abbrev pub piece_at : (Standing → RenderedPiece) → (open_ended : ℕ) → Cursor → Rendered
piece_at piece open_ended cursor = rendered_of (piece (record { cursor = cursor; open_ended = open_ended }))

-- the open-ended state as a number
abbrev pub seen_open_ended : OpenEnded → ℕ
seen_open_ended Closed = 0
seen_open_ended ImplicitEnd = 1
seen_open_ended KeptBreaks = 2

-- the text before a document's root: `closes` says whether `...` ends the document before it, `explicit` whether `---` is written
abbrev pub render_document_head : Effective → (closes : Bool) → Option Version → List TagDirective → (explicit : Bool) → Cursor → Rendered
render_document_head s closes version directives explicit cursor =
    render_then
    (render_then (render_then (render_if closes render_closing_marker cursor) (render_version version)) (render_tag_directives s.portable directives))
    (render_if explicit (render_document_marker s.canonical))

-- a document's end: a new line, and `...` on a line of its own if it isn't implicit
abbrev pub render_document_end : (implicit : Bool) → Cursor → Rendered
render_document_end true cursor = new_line 0 cursor
render_document_end false cursor = render_then (render_then (new_line 0 cursor) (render_indicator document_end)) (new_line 0)

-- a `%TAG` line without its end
abbrev pub render_tag_words : (portable : Bool) → TagDirective → Cursor → Rendered
render_tag_words portable directive cursor =
    render_then (render_then (render_indicator tag_directive cursor) (render_handle directive.handle))
    (render_handle (prefix_escaped portable directive.prefix))
