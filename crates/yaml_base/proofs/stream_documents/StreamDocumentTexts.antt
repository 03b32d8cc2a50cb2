-- The text of a document by itself: its directives, its marker, its root and its end, as one text in place of pieces.
use Rattle.yaml_base.proofs.Common.{arith, if◌then◌else◌, ◌==◌, codes, Bool, false, not, true, ◌&&◌, ◌||◌, List, [], ◌++◌, ◌∷◌, refl, ◌≡◌}
use Rattle.yaml_base.proofs.Common.{append-nil, append_assoc, ap, subst, sym, ◌∙◌, flat_map-append, Text, line_feed, Cursor, Rendered, TagDirective}
use Rattle.yaml_base.proofs.Common.{DocumentStart, Document, render_if, render_closing_marker, render_tag_directives, has_directives}
use Rattle.yaml_base.proofs.Common.{is_explicit, render_document_start, document_start_piece, document_end_piece, root_place, render_document, Piece}
use Rattle.yaml_base.proofs.Common.{piece_text, text_of, Standing, RenderedPiece, RenderedPieces, one_piece, render_node, Effective, directives_in_force}
use Rattle.yaml_base.proofs.{Common.nat_tests, stream_documents.StreamDocumentReads.dots_if, stream_documents.StreamRootAdded.text_with_marker}
use Rattle.yaml_base.proofs.stream_documents.StreamRootsStand.{root_cursor, render_root, prologue_text}
use Rattle.yaml_base.proofs.stream_lines.StreamClosed.{closing, closed, Settled, new_line_closes, margin_cursor}
use Rattle.yaml_base.proofs.stream_nodes.StreamTexts.{node_own, node_joined}

-- Starts

-- `---`, and in canonical mode the end of its line
abbrev pub marker_text : (explicit canonical : Bool) → Text
marker_text true canonical = if not canonical then codes "---" else codes "---" ++ (line_feed ∷ [])
marker_text false canonical = []

-- the text before a root, if the document before it is ended or open
abbrev pub before_root : Effective → (ended : Bool) → DocumentStart → Text
before_root s ended start = dots_if (has_directives start && not ended) ++ prologue_text s start

directives_end : (portable : Bool) (directives : List TagDirective) (cursor : Cursor) → cursor ≡ margin_cursor 0
    → (render_tag_directives portable directives cursor).cursor ≡ margin_cursor 0
directives_end portable [] cursor h = h
directives_end portable (directive ∷ rest) cursor h = directives_end portable rest (margin_cursor 0) refl

pub dots_rendered : (x : Bool) → render_if x render_closing_marker (margin_cursor 0) ≡ record { text = dots_if x; cursor = margin_cursor 0 }
dots_rendered x = grind (arith, nat_tests)

-- a document's start is rendered so
pub start_rendered : (s : Effective) (first : Bool) (start : DocumentStart) (standing : Standing) → standing.cursor ≡ margin_cursor 0
    → render_document_start s first start standing
    ≡ record {
      text = before_root s (standing.open_ended == 0) start ++ marker_text (is_explicit (s.canonical || s.portable) first start) s.canonical;
      cursor = root_cursor (is_explicit (s.canonical || s.portable) first start && not s.canonical);
    }
start_rendered s first start standing at = grind (arith, nat_tests, dots_rendered, directives_end, append_assoc)

-- Ends

-- an end, on a new line
end_text : (implicit : Bool) (standing : Standing) → Settled standing.cursor
    → text_of (one_piece (document_end_piece implicit standing)).pieces ≡ closing standing.cursor ++ dots_if (not implicit)
end_text implicit standing h = grind (arith, nat_tests, append-nil, new_line_closes)

pub end_cursor : (implicit : Bool) (standing : Standing) → (document_end_piece implicit standing).standing.cursor ≡ margin_cursor 0
end_cursor implicit standing = grind (arith, nat_tests)

-- an implicit end leaves the document open, an explicit one doesn't
end_marker : (implicit : Bool) (standing : Standing) → ((document_end_piece implicit standing).standing.open_ended == 0) ≡ not implicit
end_marker implicit standing = grind (arith, nat_tests)

-- Documents

-- a root with its marker
abbrev pub root_part : (explicit : Bool) → Effective → Document → Text
root_part true s document = text_with_marker (not s.canonical) s document
root_part false s document = closed (render_root false s document)

-- the text of a document after one that is ended or open
abbrev pub document_text : Effective → (first ended : Bool) → Document → Text
document_text s first ended document =
    before_root s ended document.start
    ++ (root_part (is_explicit (s.canonical || s.portable) first document.start) s document ++ dots_if (not document.end_implicit))

-- a root after its marker
marked_root : (explicit : Bool) (s : Effective) (document : Document)
    → marker_text explicit s.canonical ++ closed (render_root (explicit && not s.canonical) s document) ≡ root_part explicit s document
marked_root explicit s document = grind (arith, nat_tests)

-- regrouped: the text before a marker, the marker, a root and its end
regrouped : (a m r c e : Text) → ((((a ++ m) ++ []) ++ []) ++ r) ++ (c ++ e) ≡ a ++ ((m ++ (r ++ c)) ++ e)
regrouped a m r c e = grind (arith, append-nil, append_assoc)

-- the rendered text of a document is this one, after which a line begins and the document is ended or open
pub record RenderedDocument (s : Effective) (first : Bool) (document : Document) (standing : Standing) : Type 0 where
  pub text : text_of (render_document s first document standing).pieces ≡ document_text s first (standing.open_ended == 0) document
  pub cursor : (render_document s first document standing).standing.cursor ≡ margin_cursor 0
  pub ended : ((render_document s first document standing).standing.open_ended == 0) ≡ not document.end_implicit

-- if its root ends settled
pub document_joined : (s : Effective) (first : Bool) (document : Document) (standing : Standing) → standing.cursor ≡ margin_cursor 0
    → Settled (render_root (is_explicit (s.canonical || s.portable) first document.start && not s.canonical) s document).cursor
    → RenderedDocument s first document standing
document_joined s first document standing at settled =
    let starts : render_document_start s first document.start standing
    ≡ record {
      text = before_root s (standing.open_ended == 0) document.start ++ marker_text explicit s.canonical;
      cursor = root_cursor (explicit && not s.canonical);
    } =
    start_rendered s first document.start standing at in
    let start : Piece = (document_start_piece s first document.start standing).piece in
    let own : Cursor → Rendered = node_own document.root s (directives_in_force document.start.directives) root_place in
    let ending : RenderedPiece = document_end_piece document.end_implicit root.standing in
    let joined : (text_of root.pieces ≡ (own after.cursor).text) × (root.standing.cursor ≡ (own after.cursor).cursor) =
    node_joined document.root s (directives_in_force document.start.directives) root_place after in
    let cursors : root.standing.cursor ≡ rendered.cursor = joined.1 ∙ ap (λ (l : Rendered). (own l.cursor).cursor) starts in
    record {
      text =
          flat_map-append piece_text ((start ∷ []) ++ root.pieces) (ending.piece ∷ [])
          ∙ ap (λ t. t ++ text_of (ending.piece ∷ [])) (flat_map-append piece_text (start ∷ []) root.pieces)
          ∙ ap (λ t. (text_of (start ∷ []) ++ text_of root.pieces) ++ t) (end_text document.end_implicit root.standing (subst_settled cursors))
          ∙ ap (λ t. (text_of (start ∷ []) ++ t) ++ (closing root.standing.cursor ++ dots_if (not document.end_implicit)))
          (joined.0 ∙ ap (λ c. (own c).text) (ap (λ (l : Rendered). l.cursor) starts))
          ∙ ap (λ c. (text_of (start ∷ []) ++ rendered.text) ++ (closing c ++ dots_if (not document.end_implicit))) cursors
          ∙ ap (λ (l : Rendered). (((l.text ++ []) ++ []) ++ rendered.text) ++ (closing rendered.cursor ++ dots_if (not document.end_implicit))) starts
          ∙ regrouped (before_root s (standing.open_ended == 0) document.start) (marker_text explicit s.canonical) rendered.text (closing rendered.cursor)
          (dots_if (not document.end_implicit))
          ∙ ap (λ t. before_root s (standing.open_ended == 0) document.start ++ (t ++ dots_if (not document.end_implicit))) (marked_root explicit s document);
      cursor = end_cursor document.end_implicit root.standing;
      ended = end_marker document.end_implicit root.standing;
    }
  where
    explicit : Bool
    explicit = is_explicit (s.canonical || s.portable) first document.start

    after : Standing
    after = (document_start_piece s first document.start standing).standing

    rendered : Rendered
    rendered = render_root (explicit && not s.canonical) s document

    root : RenderedPieces
    root = render_node document.root s (directives_in_force document.start.directives) root_place after

    subst_settled : root.standing.cursor ≡ rendered.cursor → Settled root.standing.cursor
    subst_settled e = subst Settled (sym e) settled
