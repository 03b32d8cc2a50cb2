-- A whole stream whose documents are readable is read as their trees.
use Rattle.yaml_base.proofs.Common.{nat_tests}
use Rattle.yaml_base.proofs.Common.{or_from, or_parts}
use Rattle.yaml_base.proofs.Common.{suc, ℕ, ◌≤◌, if◌then◌else◌, ◌==◌, option_and_then, None, Some, codes, length, Bool, false, not, true, ◌&&◌, ◌||◌, List, []}
use Rattle.yaml_base.proofs.Common.{◌++◌, ◌∷◌, refl, ◌≡◌, eqb-true, length-append, append-nil, ap, subst, sym, ◌∙◌, arith, and_parts, and_from, flat_map-append}
use Rattle.yaml_base.proofs.Common.{Text, line_feed, Document, Documents, no_documents, documents_and, Stream, is_explicit, root_place}
use Rattle.yaml_base.proofs.Common.{render_document, render_documents, first_standing, layout, piece_text, text_of, RenderedPieces, Effective}
use Rattle.yaml_base.proofs.Common.{is_written_as_nothing, directives_in_force, DocumentTree, documents_in_order, Sections, sections_of, no_prologue}
use Rattle.yaml_base.proofs.Common.{with_read_document, directive_lines, document_lines, begins_with_percent, prefix_kind, lines_before_marker_read}
use Rattle.yaml_base.proofs.Common.{documents_at_end, sections_read, documents_of, Line, lines_of, is_spaces, ends_indicator, node_read}
use Rattle.yaml_base.{proofs.stream_documents.StreamRootAdded.with_document, proofs.stream_documents.StreamRootStood.root_fits}
use Rattle.yaml_base.{proofs.stream_documents.StreamSizes.block_node, proofs.stream_documents.StreamSoFar.documents_so_far}
use Rattle.yaml_base.{proofs.stream_lines.StreamCuts.none_not_some, proofs.stream_nodes.StreamFits.size, specs.streams.StreamLines.all_blank}
use Rattle.yaml_base.specs.streams.{StreamDocuments.content_lines, StreamLines.begins_comment}
use Rattle.yaml_base.proofs.stream_documents.StreamDocumentsRead.{later_more, first_more}
use Rattle.yaml_base.proofs.stream_lines.StreamClosed.{closing, margin_cursor}
use Rattle.yaml_base.proofs.Common.{list_all}
use Rattle.yaml_base.proofs.stream_lines.StreamSections.{is_content, all_content, AreContent, markerless_before}
use Rattle.yaml_base.proofs.stream_documents.StreamDocumentReads.{Awaits, awaits_first, awaits_ended, dots_if}
use Rattle.yaml_base.proofs.stream_documents.StreamDocumentTexts.{before_root, dots_rendered, root_part, document_text, RenderedDocument, document_joined}
use Rattle.yaml_base.proofs.stream_documents.StreamRootsStand.{rules_of, root_cursor, render_root, RootStands, is_on_marker, DocumentStands, DocumentsStand}

-- Lists of documents

-- the first document is written as something, if no marker is written before it
abbrev pub FirstWritten : Effective → List Document → Type 0
FirstWritten s [] = Unit {0}
FirstWritten s (document ∷ rest) = is_explicit (s.canonical || s.portable) true document.start ≡ false → is_written_as_nothing s.canonical document.root ≡ false

-- a list's first document is that of its prefix
first_prefix : (s : Effective) (some others : List Document) → FirstWritten s (some ++ others) → FirstWritten s some
first_prefix s [] others h = tt
first_prefix s (document ∷ rest) others h = h

-- the trees of documents
abbrev pub document_trees : Effective → Documents → List DocumentTree
document_trees s no_documents = []
document_trees s (documents_and before document) = with_document s (document_trees s before) document

-- Sizes

-- a text among others is no longer than they are
root_length : (before marker own rest ending : Text) → length own ≤ length (before ++ ((marker ++ (own ++ rest)) ++ ending))
root_length before marker own rest ending = grind (arith, length-append)

-- the root of a document is no deeper than the document's text is long, and one
document_size : (s : Effective) (first ended : Bool) (document : Document) → DocumentStands s first document
    → size document.root ≤ suc (length (document_text s first ended document))
document_size s first ended document stands = by (is_explicit (s.canonical || s.portable) first document.start) stands.root
  where
    before : Text
    before = before_root s ended document.start

    ending : Text
    ending = dots_if (not document.end_implicit)

    own : (on_marker : Bool) → RootStands s document on_marker → size document.root ≤ suc (length (render_root on_marker s document).text)
    own on_marker root = block_node document.root (rules_of s document) s (directives_in_force document.start.directives) root_place
        (root_cursor on_marker) root.leaves

    by : (x : Bool) → RootStands s document (x && not s.canonical) → size document.root ≤ suc (length (before ++ (root_part x s document ++ ending)))
    by true stood =
        let root = render_root (not s.canonical) s document in
        let deep = own (not s.canonical) stood in
        let within = root_length before (if not s.canonical then codes "---" else codes "---" ++ (line_feed ∷ [])) root.text (closing root.cursor) ending in
        omega arith
    by false stood =
        let root = render_root false s document in
        let deep = own false stood in
        let within = root_length before [] root.text (closing root.cursor) ending in
        omega arith

-- Documents

-- documents that are rendered up to here, and are read at each depth that their text has
record RenderedSo (s : Effective) (documents : Documents) (rendered : RenderedPieces) : Type 0 where
  cursor : rendered.standing.cursor ≡ margin_cursor 0
  awaits : (depth : ℕ) → suc (length (text_of rendered.pieces)) ≤ depth
      → Awaits s.breaks12 depth (text_of rendered.pieces) (document_trees s documents) (rendered.standing.open_ended == 0)

-- one document more
document_so_rendered : (s : Effective) (first : Bool) (documents : Documents) (rendered : RenderedPieces) (document : Document) → 2 ≤ s.indent
    → DocumentStands s first document → rendered.standing.cursor ≡ margin_cursor 0
    → ((depth : ℕ) → suc (length (text_of rendered.pieces ++ document_text s first (rendered.standing.open_ended == 0) document)) ≤ depth
    → size document.root ≤ depth
    → Awaits s.breaks12 depth (text_of rendered.pieces ++ document_text s first (rendered.standing.open_ended == 0) document)
    (document_trees s (documents_and documents document)) (not document.end_implicit))
    → RenderedSo s (documents_and documents document)
    (record {
      pieces = rendered.pieces ++ (render_document s first document rendered.standing).pieces;
      standing =
          (render_document s first document rendered.standing).standing;
    })
document_so_rendered s first documents rendered document deep stands at awaits =
    let next : RenderedPieces = render_document s first document rendered.standing in
    let joined : RenderedDocument s first document rendered.standing =
    document_joined s first document rendered.standing at (root_fits s document (is_on_marker s first document.start) deep stands.root).settled in
    let same : text_of (rendered.pieces ++ next.pieces) ≡ text_of rendered.pieces ++ text =
    flat_map-append piece_text rendered.pieces next.pieces ∙ ap (λ t. text_of rendered.pieces ++ t) joined.text in
    record {
      cursor = joined.cursor;
      awaits = λ depth long.
          subst (λ t. Awaits s.breaks12 depth t (document_trees s (documents_and documents document)) (next.standing.open_ended == 0)) (sym same)
          (subst (Awaits s.breaks12 depth (text_of rendered.pieces ++ text) (document_trees s (documents_and documents document))) (sym joined.ended)
          (awaits depth (subst (λ t. suc (length t) ≤ depth) same long) (small depth (subst (λ t. suc (length t) ≤ depth) same long))));
    }
  where
    text : Text
    text = document_text s first (rendered.standing.open_ended == 0) document

    small : (depth : ℕ) → suc (length (text_of rendered.pieces ++ text)) ≤ depth → size document.root ≤ depth
    small depth long = grind (arith, nat_tests, and_parts, and_from, or_parts, or_from, length-append, document_size)

-- all documents
documents_so_rendered : (s : Effective) (documents : Documents) → 2 ≤ s.indent → DocumentsStand s documents → FirstWritten s (documents_in_order documents)
    → RenderedSo s documents (render_documents s documents first_standing)
documents_so_rendered s no_documents deep stands written = record { cursor = refl; awaits = λ depth long. awaits_first s.breaks12 depth }
documents_so_rendered s (documents_and no_documents document) deep stands written =
    document_so_rendered s true no_documents (render_documents s no_documents first_standing) document deep stands.1 refl
    (λ depth long small. first_more s depth document deep stands.1 small written (awaits_first s.breaks12 depth))
documents_so_rendered s (documents_and (documents_and before last) document) deep stands written =
    let rendered = render_documents s (documents_and before last) first_standing in
    let so = documents_so_rendered s (documents_and before last) deep stands.0
    (first_prefix s (documents_in_order (documents_and before last)) (document ∷ []) written) in
    document_so_rendered s false (documents_and before last) rendered document deep stands.1 so.cursor
    (λ depth long small. later_more s depth (text_of rendered.pieces) (document_trees s (documents_and before last)) document
    (rendered.standing.open_ended == 0) deep stands.1 small
    (so.awaits depth (shorter depth (text_of rendered.pieces) (document_text s false (rendered.standing.open_ended == 0) document) long)))
  where
    shorter : (depth : ℕ) (a b : Text) → suc (length (a ++ b)) ≤ depth → suc (length a) ≤ depth
    shorter depth a b h = let sum = length-append a b in omega arith

-- Ends

-- if a stream ends, its documents are read
ended_read : (breaks12 : Bool) (depth : ℕ) (text : Text) (documents : List DocumentTree) (marker : ℕ) → Awaits breaks12 depth text documents (marker == 0)
    → sections_read depth breaks12 (sections_of (lines_of breaks12 (text ++ dots_if (marker == 2)))) ≡ Some documents
ended_read breaks12 depth text documents marker awaits = by (marker == 0) refl (marker == 2) refl awaits
  where
    by : (x : Bool) → (marker == 0) ≡ x → (y : Bool) → (marker == 2) ≡ y → Awaits breaks12 depth text documents x
        → sections_read depth breaks12 (sections_of (lines_of breaks12 (text ++ dots_if y))) ≡ Some documents
    by true e true f awaits = let one = eqb-true marker 0 e in let other = eqb-true marker 2 f in absurd (omega arith)
    by true e false f awaits = documents_so_far breaks12 depth (text ++ []) _ (awaits [] no_prologue refl refl refl) refl
    by false e true f awaits =
        ap (λ t. sections_read depth breaks12 (sections_of (lines_of breaks12 t))) (sym (append-nil (text ++ dots_if true)))
        ∙ documents_so_far breaks12 depth ((text ++ dots_if true) ++ []) _
        (awaits_ended breaks12 depth text documents awaits [] no_prologue refl refl refl) refl
    by false e false f awaits =
        ap (λ t. sections_read depth breaks12 (sections_of (lines_of breaks12 t))) (append-nil text) ∙ documents_so_far breaks12 depth text _ awaits refl

-- Blank lines

-- a blank line is no marker and no comment, and begins no text
blank_markerless : (t : Text) → is_spaces t ≡ true → is_content t ≡ true
blank_markerless t h = grind (arith, and_parts, eqb-true)

blank_lines_markerless : (lines : List Line) → all_blank lines ≡ true → AreContent lines
blank_lines_markerless lines h = all_content lines (pass lines h)
  where
    pass : (lines : List Line) → all_blank lines ≡ true → list_all (λ line. is_content line.text) lines ≡ true
    pass [] h = refl
    pass (line ∷ rest) h = grind (arith, and_parts, and_from, or_parts, or_from, blank_markerless, pass rest)

blank_no_text : (t : Text) → is_spaces t ≡ true → (begins_with_percent t ≡ false) × (ends_indicator t ≡ true)
blank_no_text [] h = (refl, refl)
blank_no_text (c ∷ t) h = grind (arith, and_parts, eqb-true)

-- so blank lines are read as no documents
blank_read : (breaks12 : Bool) (depth : ℕ) (lines : List Line) (documents : List DocumentTree) → all_blank lines ≡ true
    → sections_read depth breaks12 (sections_of lines) ≡ Some documents → documents ≡ []
blank_read breaks12 depth lines documents blank reads =
    let alone = ap sections_of (sym (append-nil lines)) ∙ markerless_before lines [] (blank_lines_markerless lines blank)
    ∙ ap (λ b. let all : Sections = record { before = b; sections = [] } in all) (append-nil lines) in
    by lines blank (ap (sections_read depth breaks12) (sym alone) ∙ reads)
  where
    by : (lines : List Line) → all_blank lines ≡ true
        → option_and_then documents_at_end (lines_before_marker_read (prefix_kind lines) depth breaks12 lines) ≡ Some documents
        → documents ≡ []
    by [] blank reads = sym (cc_some reads)
      where
        cc_some : {a b : List DocumentTree} → Some a ≡ Some b → a ≡ b
        cc_some h = cc
    by (line ∷ rest) blank reads =
        let text = blank_no_text line.text (and_parts _ _ blank).0 in
        absurd (none_not_some
        (sym (ap (λ x. option_and_then documents_at_end
        (lines_before_marker_read (if x then directive_lines else document_lines) depth breaks12 (line ∷ rest))) text.0
        ∙ ap (λ x. option_and_then documents_at_end
        (with_read_document [] no_prologue (if not x && not (begins_comment line.text)
        then node_read depth (record { breaks12 = breaks12; directives = [] }) true None (content_lines (line ∷ rest)) else None)))
        text.1) ∙ reads))

-- Streams

-- the text of a whole stream
pub stream_text : (s : Effective) (stream : Stream) → (render_documents s stream.documents first_standing).standing.cursor ≡ margin_cursor 0
    → text_of (layout s stream)
    ≡ text_of (render_documents s stream.documents first_standing).pieces ++ dots_if
    ((render_documents s stream.documents first_standing).standing.open_ended == 2)
stream_text s stream at = grind (arith, flat_map-append, append-nil, dots_rendered)

-- a stream whose documents are readable is read as their trees
pub stream_reads : (s : Effective) (stream : Stream) → 2 ≤ s.indent → DocumentsStand s stream.documents → FirstWritten s (documents_in_order stream.documents)
    → documents_of s.breaks12 (text_of (layout s stream)) ≡ Some (document_trees s stream.documents)
stream_reads s stream deep stands written =
    by (all_blank (lines_of s.breaks12 text)) refl
  where
    documents : RenderedPieces
    documents = render_documents s stream.documents first_standing

    text : Text
    text = text_of (layout s stream)

    so : RenderedSo s stream.documents documents
    so = documents_so_rendered s stream.documents deep stands written

    same : text ≡ text_of documents.pieces ++ dots_if (documents.standing.open_ended == 2)
    same = stream_text s stream so.cursor

    long : suc (length (text_of documents.pieces)) ≤ suc (length text)
    long =
        let sum = length-append (text_of documents.pieces) (dots_if (documents.standing.open_ended == 2)) in
        let e = ap length same in
        omega arith

    reads : sections_read (suc (length text)) s.breaks12 (sections_of (lines_of s.breaks12 text)) ≡ Some (document_trees s stream.documents)
    reads =
        ap (λ t. sections_read (suc (length text)) s.breaks12 (sections_of (lines_of s.breaks12 t))) same
        ∙ ended_read s.breaks12 (suc (length text)) (text_of documents.pieces) (document_trees s stream.documents) documents.standing.open_ended
        (so.awaits (suc (length text)) long)

    by : (x : Bool) → all_blank (lines_of s.breaks12 text) ≡ x
        → (if x then Some [] else sections_read (suc (length text)) s.breaks12 (sections_of (lines_of s.breaks12 text)))
        ≡ Some (document_trees s stream.documents)
    by false e = reads
    by true e = ap (λ (ds : List DocumentTree). Some ds)
        (sym (blank_read s.breaks12 (suc (length text)) (lines_of s.breaks12 text) (document_trees s stream.documents) e reads))
