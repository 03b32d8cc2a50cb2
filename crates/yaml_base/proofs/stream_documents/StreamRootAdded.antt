-- A root after `---`, or one without it at a stream's start, is one document more of the stream.
use Rattle.yaml_base.proofs.Common.{arith, ℕ, ◌≤◌, if◌then◌else◌, Option, None, Some, codes, Bool, false, not, true, ◌||◌, List, [], ◌++◌, ◌∷◌, refl, ◌≡◌, ap}
use Rattle.yaml_base.proofs.Common.{sym, ◌∙◌, and_from, false≢true, Text, line_feed, Document, has_directives, root_place, Effective, Tree}
use Rattle.yaml_base.proofs.Common.{DocumentTree, begins_with_marker, start_marker, end_marker, no_exclamation, marker_of, Prologue, stands_at_margin}
use Rattle.yaml_base.proofs.Common.{root_below, with_read_document, section_by_kind, document_lines, prefix_kind, lines_before_marker_read, Line, lines_of}
use Rattle.yaml_base.specs.streams.StreamLines.{begins_comment, is_skipped}
use Rattle.yaml_base.proofs.stream_lines.StreamInside.{not_skipped}
use Rattle.yaml_base.proofs.Common.{◌==◌, ◌&&◌, and_parts, not-true, space, ends_indicator, without_skipped_lines, node_read, Rules, nat_tests}
use Rattle.yaml_base.{proofs.stream_nodes.StreamAgrees.document_tree, specs.streams.StreamDocuments.after_root}
use Rattle.yaml_base.proofs.stream_documents.{StreamDocumentReads.BehindPrologue, StreamDocumentReads.prologue_parsed, StreamDocumentReads.nothing_parsed}
use Rattle.yaml_base.proofs.stream_documents.{StreamRootLines.begins_shown, StreamRootLines.stands_below, StreamRootLines.Stood, StreamRootStood.root_tree}
use Rattle.yaml_base.proofs.stream_documents.{StreamRoots.root_reads, StreamRoots.root_with_marker_reads, StreamRootsStand.rules_of, StreamSoFar.WalkProgress}
use Rattle.yaml_base.proofs.stream_documents.{StreamRootsStand.root_cursor, StreamRootsStand.render_root, StreamSoFar.prefix_alone, StreamSoFar.one_more}
use Rattle.yaml_base.proofs.Common.{subst}
use Rattle.yaml_base.proofs.stream_lines.StreamSections.{is_markerless, is_content, all_content, content_both, AreContent}
use Rattle.yaml_base.proofs.stream_lines.{StreamTidyLaws.lines_after_first}
use Rattle.yaml_base.proofs.stream_lines.{StreamUnread.read_markerless, StreamUnread.read_no_percent}
use Rattle.yaml_base.proofs.stream_lines.StreamClosed.{closed, lines_behind, lines_broken, closed_behind, closed_both}
use Rattle.yaml_base.proofs.stream_nodes.StreamFits.{size, Opens, Fits, indicated_ends}
use Rattle.yaml_base.proofs.stream_lines.StreamLineLaws.{unbroken_line}

-- The first line

-- a shown first line is at the margin
shown_margin : (lines : List Line) → begins_shown lines ≡ true → stands_at_margin lines ≡ true
shown_margin [] h = refl
shown_margin (line ∷ rest) h = h

-- and isn't skipped
shown_line : (t : Text) → (not (ends_indicator t) && not (begins_comment t)) ≡ true → is_skipped t ≡ false
shown_line [] h = absurd (false≢true h)
shown_line (c ∷ t) h =
    let parts = and_parts (not (c == space)) (not (c == 0x23)) h in
    not_skipped 0 c t (not-true (c == space) parts.0) (not-true (c == 0x23) parts.1)

shown_whole : (lines : List Line) → begins_shown lines ≡ true → without_skipped_lines lines ≡ lines
shown_whole [] h = refl
shown_whole (line ∷ rest) h = ap (λ x. if x then without_skipped_lines rest else line ∷ rest) (shown_line line.text h)

-- no line of a text that begins so and reads as a node is a marker or a comment at column 0, if none after its first is
markerless_whole : (lines : List Line) (depth : ℕ) (rules : Rules) (here : Bool) (column : Option ℕ) (tree : Tree)
    → node_read depth rules here column lines ≡ Some tree
    → begins_shown lines ≡ true → AreContent (lines_after_first lines) → AreContent lines
markerless_whole [] depth rules here column tree reads shown after = after
markerless_whole (line ∷ rest) depth rules here column tree reads shown after =
    content_both (line ∷ []) rest (all_content (line ∷ []) (and_from (is_content line.text) true
    (and_from (is_markerless (marker_of line.text)) (not (begins_comment line.text)) (read_markerless line rest depth rules here column tree reads)
    (and_parts (not (ends_indicator line.text)) (not (begins_comment line.text)) shown).1) refl)) after

-- Documents after `---`

-- one document more
abbrev pub with_document : Effective → List DocumentTree → Document → List DocumentTree
with_document s documents document = documents ++ document_tree s document ∷ []

-- the root of a document after `---`, on its line or below it
abbrev pub text_with_marker : (on_marker : Bool) → Effective → Document → Text
text_with_marker on_marker s document = (if on_marker then codes "---" else codes "---" ++ (line_feed ∷ [])) ++ closed (render_root on_marker s document)

-- a root that begins on the line of `---`
on_marker_added : (s : Effective) (depth : ℕ) (text : Text) (documents : List DocumentTree) (document : Document)
    → BehindPrologue s.breaks12 depth text documents (prologue_parsed document.start)
    → (fit : Fits (rules_of s document) (size document.root) (render_root true s document) (root_tree s document) root_place (root_cursor true))
    → size document.root ≤ depth
    → Stood true (lines_of s.breaks12 (closed (render_root true s document)))
    → WalkProgress s.breaks12 depth (text ++ text_with_marker true s document) (record { documents = with_document s documents document; place = after_root })
on_marker_added s depth text documents document behind fit deep stood =
    let line : Line = record { text = codes "---" ++ o.head; ending = o.ending } in
    let markers : marker_of (codes "---" ++ o.head) ≡ start_marker =
    ap (λ x. if x then start_marker else (if begins_with_marker 0x2E (codes "---" ++ o.head) then end_marker else no_exclamation)) o.symbol in
    one_more _ depth text _ _ _ line o.rest behind.so_far
    (closed_behind _ (codes "--") 0x2D own (indicated_ends _ 0 0x2D own o fit.ends))
    (lines_behind s.breaks12 (codes "---") own o.head o.ending o.rest (unbroken_line s.breaks12 (codes "---") refl) o.is)
    (ap is_markerless markers) later
    (ap (λ m. section_by_kind m depth s.breaks12 documents behind.place (record { marker = m; line = line; rest = o.rest })) markers
    ∙ behind.opens (record { marker = start_marker; line = line; rest = o.rest })
    ∙ ap (with_read_document documents (prologue_parsed document.start)) (root_with_marker_reads _ _ _ _ fit margin later depth deep))
  where
    own : Text
    own = closed (render_root true s document)

    o : Opens s.breaks12 own
    o = fit.opens refl

    later : AreContent o.rest
    later = subst (λ ls. AreContent (lines_after_first ls)) o.is stood.0

    margin : is_skipped o.head ≡ true → stands_at_margin (without_skipped_lines o.rest) ≡ true
    margin e = ap (λ x. not x || stands_at_margin (without_skipped_lines o.rest)) (sym e) ∙ ap stands_below (sym o.is) ∙ stood.1

-- a root on lines of its own below `---`
below_marker_added : (s : Effective) (depth : ℕ) (text : Text) (documents : List DocumentTree) (document : Document)
    → BehindPrologue s.breaks12 depth text documents (prologue_parsed document.start)
    → (fit : Fits (rules_of s document) (size document.root) (render_root false s document) (root_tree s document) root_place (root_cursor false))
    → size document.root ≤ depth
    → Stood false (lines_of s.breaks12 (closed (render_root false s document)))
    → WalkProgress s.breaks12 depth (text ++ text_with_marker false s document) (record { documents = with_document s documents document; place = after_root })
below_marker_added s depth text documents document behind fit deep stood =
    let own : Text = closed (render_root false s document) in
    let rules : Rules = rules_of s document in
    let lines : List Line = lines_of s.breaks12 own in
    let line : Line = record { text = codes "---"; ending = line_feed ∷ [] } in
    let markerless = markerless_whole lines depth rules true None _ (fit.reads depth deep true 0 (λ h. (refl, refl))) stood.1 stood.0 in
    one_more _ depth text _ _ _ line lines behind.so_far
    (closed_both s.breaks12 (codes "---" ++ (line_feed ∷ [])) own refl fit.ends)
    (lines_broken _ _ own (unbroken_line s.breaks12 (codes "---") refl)) refl
    markerless
    (behind.opens (record { marker = start_marker; line = line; rest = lines })
    ∙ ap (λ ls. with_read_document documents (prologue_parsed document.start) (root_below depth rules ls)) (shown_whole lines stood.1)
    ∙ ap (with_read_document documents (prologue_parsed document.start))
    (root_reads rules (size document.root) (render_root false s document) (root_tree s document) fit (shown_margin lines stood.1) markerless depth deep))

-- either
pub added_with_marker : (on_marker : Bool) (s : Effective) (depth : ℕ) (text : Text) (documents : List DocumentTree) (document : Document)
    → BehindPrologue s.breaks12 depth text documents (prologue_parsed document.start)
    → (fit : Fits (rules_of s document) (size document.root) (render_root on_marker s document) (root_tree s document) root_place (root_cursor on_marker))
    → size document.root ≤ depth
    → Stood on_marker (lines_of s.breaks12 (closed (render_root on_marker s document)))
    → WalkProgress s.breaks12 depth (text ++ text_with_marker on_marker s document)
    (record { documents = with_document s documents document; place = after_root })
added_with_marker true = on_marker_added
added_with_marker false = below_marker_added

-- Documents without `---`

-- the beginning of a first line that reads as a node
prefix_document : (lines : List Line) (depth : ℕ) (rules : Rules) (here : Bool) (column : Option ℕ) (tree : Tree)
    → node_read depth rules here column lines ≡ Some tree
    → begins_shown lines ≡ true → prefix_kind lines ≡ document_lines
prefix_document lines depth rules here column tree h h2 = grind (arith, nat_tests, false≢true, read_no_percent)

-- a root at the stream's start
pub markerless_added : (s : Effective) (depth : ℕ) (document : Document) → has_directives document.start ≡ false
    → (fit : Fits (rules_of s document) (size document.root) (render_root false s document) (root_tree s document) root_place (root_cursor false))
    → size document.root ≤ depth
    → Stood false (lines_of s.breaks12 (closed (render_root false s document)))
    → WalkProgress s.breaks12 depth (closed (render_root false s document)) (record { documents = with_document s [] document; place = after_root })
markerless_added s depth document none fit deep stood =
    let own : Text = closed (render_root false s document) in
    let rules : Rules = rules_of s document in
    let lines : List Line = lines_of s.breaks12 own in
    let reads : node_read depth rules true None lines ≡ Some (root_tree s document) = fit.reads depth deep true 0 (λ h. (refl, refl)) in
    let markerless = markerless_whole lines depth rules true None _ reads stood.1 stood.0 in
    prefix_alone _ depth own _ fit.ends markerless
    (ap (λ k. lines_before_marker_read k depth s.breaks12 lines) (prefix_document lines depth rules true None _ reads stood.1)
    ∙ ap (λ (h : Prologue). with_read_document [] h (root_below depth (record { breaks12 = s.breaks12; directives = h.directives }) lines))
    (nothing_parsed document.start none)
    ∙ ap (with_read_document [] (prologue_parsed document.start)) (root_reads rules _ _ _ fit (shown_margin lines stood.1) markerless depth deep))
