-- The text of a stream, one piece for each event (libyaml's own rules; YAML 1.1, chapter 7, for the indicators).
use Rattle.std.specs.Prelude.{◌≡◌, Bool, true, false, Option, None, Some, List, [], ◌∷◌, ◌==◌, ◌||◌, ◌&&◌, not, length, is_some, pos, if◌then◌else◌}
use Rattle.std.specs.Ordering.{int_eq}
use Rattle.yaml_base.specs.Settings.{Effective}
use Rattle.yaml_base.specs.Cursor.{Cursor, Rendered, first_cursor, render_nothing, render_then, new_line}
use Rattle.yaml_base.specs.Indicators.{Indicator, render_indicator, document_start, document_end, yaml_directive, version_1_1, version_1_2, tag_directive}
use Rattle.yaml_base.specs.Event.{Version, TagDirective, DocumentStart}
use Rattle.yaml_base.specs.Percent.{prefix_escaped}
use Rattle.yaml_base.specs.Tags.{directives_in_force}
use Rattle.yaml_base.specs.Grammar.{Document, Documents, no_documents, documents_and, Stream, stream_events}
pub use Rattle.yaml_base.specs.Places.{Role, as_root, as_item, as_key, as_value, Place, is_key, is_in_mapping, is_undented, line_column, deeper, entries_column}
pub use Rattle.yaml_base.specs.Places.{byte_count, name_count, spelling_count, tag_count, is_short, is_simple_alias, is_simple_scalar}
pub use Rattle.yaml_base.specs.Places.{is_simple_collection, has_no_nodes, has_no_pairs, is_simple, is_simple_at, flow_break, opening_or_comma}
pub use Rattle.yaml_base.specs.Places.{key_indicator, render_flow_place, render_block_place, render_place}
pub use Rattle.yaml_base.specs.NodeLayout.{Body, Piece, body_text, piece_text, text_of, bodies_of, Standing, RenderedPiece, RenderedPieces, no_pieces}
pub use Rattle.yaml_base.specs.NodeLayout.{one_piece}
pub use Rattle.yaml_base.specs.NodeLayout.{then_pieces, piece_without_body, render_anchor, render_handle, render_spelling, render_tag}
pub use Rattle.yaml_base.specs.NodeLayout.{render_properties, render_alias}
pub use Rattle.yaml_base.specs.NodeLayout.{render_separation, render_body, open_ended_after, charset_of, style_asked_at, choice_of, scalar_lead, body_at}
pub use Rattle.yaml_base.specs.NodeLayout.{allowed_by_quotes, allowed_by_blanks, allowed_under}
pub use Rattle.yaml_base.specs.NodeLayout.{scalar_piece}
pub use Rattle.yaml_base.specs.NodeLayout.{alias_piece, start_piece}
pub use Rattle.yaml_base.specs.NodeLayout.{asks_flow, is_written_in_flow, Brackets, square, curly, empty_or_comma, render_end, end_piece, entry_place}
pub use Rattle.yaml_base.specs.NodeLayout.{render_collection, render_node, render_nodes, render_pairs}

-- a rendered text, and a new line after it
abbrev pub then_line_end : Rendered → Rendered
then_line_end rendered = render_then rendered (new_line 0)

-- a text that is rendered if a test holds
abbrev pub render_if : Bool → (Cursor → Rendered) → Cursor → Rendered
render_if true next cursor = next cursor
render_if false next cursor = render_nothing cursor

-- `...` and nothing else
abbrev pub render_closing_marker : Cursor → Rendered
render_closing_marker cursor = then_line_end (render_indicator document_end cursor)

-- a version as `%YAML` names it
abbrev pub version_word : Version → Indicator
version_word version = if int_eq version.minor (pos 2) then version_1_2 else version_1_1

-- the `%YAML` line (YAML 1.1, section 7.1.1)
abbrev pub render_version : Option Version → Cursor → Rendered
render_version None cursor = render_nothing cursor
render_version (Some version) cursor =
    then_line_end (render_then (render_indicator yaml_directive cursor) (render_indicator (version_word version)))

-- a `%TAG` line (YAML 1.1, section 7.1.2)
abbrev pub render_tag_directive : (portable : Bool) → TagDirective → Cursor → Rendered
render_tag_directive portable directive cursor =
    then_line_end
    (render_then
    (render_then (render_indicator tag_directive cursor) (render_handle directive.handle))
    (render_handle (prefix_escaped portable directive.prefix)))

-- the `%TAG` lines, in order
abbrev pub render_tag_directives : (portable : Bool) → List TagDirective → Cursor → Rendered
render_tag_directives portable [] cursor = render_nothing cursor
render_tag_directives portable (directive ∷ rest) cursor =
    render_then (render_tag_directive portable directive cursor) (render_tag_directives portable rest)

-- true if a document has a version or directives
abbrev pub has_directives : DocumentStart → Bool
has_directives start = is_some start.version || not (length start.directives == 0)

-- true if a document's start is written: the event asks for it, or it follows another document or directives, or every start is
abbrev pub is_explicit : (each : Bool) → (first : Bool) → DocumentStart → Bool
is_explicit each first start = not start.implicit || not first || each || has_directives start

-- `---` on a new line, and in canonical mode a new line after it (YAML 1.1, section 7.2)
abbrev pub render_document_marker : Bool → Cursor → Rendered
render_document_marker canonical cursor =
    render_then (render_then (new_line 0 cursor) (render_indicator document_start)) (render_if canonical (new_line 0))

-- a document's start: before directives that follow an open document comes `...`; in canonical and in portable mode every start is written
abbrev pub render_document_start : Effective → (first : Bool) → DocumentStart → Standing → Rendered
render_document_start s first start standing =
    render_then
    (render_then
    (render_then
    (render_if (has_directives start && not (standing.open_ended == 0)) render_closing_marker standing.cursor)
    (render_version start.version))
    (render_tag_directives s.portable start.directives))
    (render_if (is_explicit (s.canonical || s.portable) first start) (render_document_marker s.canonical))

-- a document's start as a piece
abbrev pub document_start_piece : Effective → (first : Bool) → DocumentStart → Standing → RenderedPiece
document_start_piece s first start standing = piece_without_body 0 (render_document_start s first start standing)

-- a document's end: an implicit one leaves the document open, an explicit one closes it
abbrev pub document_end_piece : (implicit : Bool) → Standing → RenderedPiece
document_end_piece true standing =
    piece_without_body (if standing.open_ended == 0 then 1 else standing.open_ended) (new_line 0 standing.cursor)
document_end_piece false standing = piece_without_body 0 (render_then (new_line 0 standing.cursor) render_closing_marker)

-- the place of a root: in a block, without indentation
abbrev pub root_place : Place
root_place = record { in_flow = false; role = as_root; column = None }

-- a document: its start, its root, its end
abbrev pub render_document : Effective → (first : Bool) → Document → Standing → RenderedPieces
render_document s first document standing =
    then_pieces
    (then_pieces (one_piece (document_start_piece s first document.start standing))
    (render_node document.root s (directives_in_force document.start.directives) root_place))
    (λ after. one_piece (document_end_piece document.end_implicit after))

-- true if no document precedes, so that the next one is the first
abbrev pub has_no_documents : Documents → Bool
has_no_documents no_documents = true
has_no_documents (documents_and before document) = false

-- some documents, in order
abbrev pub render_documents : Effective → Documents → Standing → RenderedPieces
render_documents s no_documents standing = no_pieces standing
render_documents s (documents_and documents document) standing =
    then_pieces (render_documents s documents standing) (render_document s (has_no_documents documents) document)

-- the state of writing at the start of a stream: column 0, nothing open
abbrev pub first_standing : Standing
first_standing = record { cursor = first_cursor; open_ended = 0 }

-- the end of a stream; it closes a last document that keeps its final breaks
abbrev pub stream_end_piece : Standing → RenderedPiece
stream_end_piece standing =
    piece_without_body standing.open_ended (render_if (standing.open_ended == 2) render_closing_marker standing.cursor)

-- the start of a stream, which writes nothing
abbrev pub stream_start_piece : Standing → RenderedPiece
stream_start_piece standing = piece_without_body standing.open_ended (render_nothing standing.cursor)

-- the rendered pieces of a stream, one for each of its events
abbrev pub render_stream : Effective → Stream → RenderedPieces
render_stream s stream =
    then_pieces
    (then_pieces (one_piece (stream_start_piece first_standing)) (render_documents s stream.documents))
    (λ after. one_piece (stream_end_piece after))

-- the pieces of a stream, one for each event
abbrev pub layout : Effective → Stream → List Piece
layout s stream = (render_stream s stream).pieces

-- a layout has one piece for each event
abbrev pub OnePieceEach : Type 0
OnePieceEach = (s : Effective) (stream : Stream) → length (layout s stream) ≡ length (stream_events stream)
