-- The documents of a stream, one after another: each readable one is one document more, and the stream may end after them.
use Rattle.yaml_base.proofs.Common.{arith, not-false, ℕ, ◌≤◌, Bool, false, not, true, ◌&&◌, ◌||◌, List, [], ◌++◌, refl, ◌≡◌, append-nil, append_assoc, ap}
use Rattle.yaml_base.proofs.Common.{subst, sym, ◌∙◌, or_parts, Text, DocumentStart, Node, Document, has_directives, is_explicit, Effective}
use Rattle.yaml_base.proofs.Common.{is_written_as_nothing, DocumentTree, nat_tests}
use Rattle.yaml_base.{proofs.stream_lines.StreamClosed.closed, proofs.stream_nodes.StreamFits.size, specs.streams.StreamDocuments.after_root}
use Rattle.yaml_base.proofs.stream_documents.{StreamDocumentTexts.before_root, StreamDocumentTexts.root_part, StreamDocumentTexts.document_text}
use Rattle.yaml_base.proofs.stream_documents.{StreamRootAdded.with_document, StreamRootAdded.added_with_marker, StreamRootAdded.markerless_added}
use Rattle.yaml_base.proofs.stream_documents.{StreamRootStood.root_fits, StreamRootStood.root_stood, StreamSoFar.WalkProgress}
use Rattle.yaml_base.proofs.stream_documents.StreamDocumentReads.{Awaits, awaits_ended, dots_if, no_prologue_written, behind_prologue}
use Rattle.yaml_base.proofs.stream_documents.StreamRootsStand.{render_root, RootStands, prologue_text, PrologueStands, DocumentStands}

-- One document more

-- in canonical mode each root is written
something_canonical : (canonical : Bool) (n : Node) → canonical ≡ true → is_written_as_nothing canonical n ≡ false
something_canonical canonical n h = grind (arith, nat_tests)

-- the end of a document, after its root
ended_more : (breaks12 : Bool) (depth : ℕ) (text : Text) (documents : List DocumentTree) (implicit : Bool)
    → WalkProgress breaks12 depth text (record { documents = documents; place = after_root })
    → Awaits breaks12 depth (text ++ dots_if (not implicit)) documents (not implicit)
ended_more breaks12 depth text documents implicit h = grind (arith, nat_tests, append-nil, awaits_ended)

-- a document with its marker
explicit_more : (s : Effective) (depth : ℕ) (text : Text) (documents : List DocumentTree) (document : Document) (ended : Bool) → 2 ≤ s.indent
    → RootStands s document (not s.canonical) → PrologueStands s document.start → size document.root ≤ depth → Awaits s.breaks12 depth text documents ended
    → Awaits s.breaks12 depth (text ++ (before_root s ended document.start ++ (root_part true s document ++ dots_if (not document.end_implicit))))
    (with_document s documents document)
    (not document.end_implicit)
explicit_more s depth text documents document ended deep stands prologue small awaits =
    let before = before_root s ended document.start in
    let root = root_part true s document in
    let stood = root_stood s document (not s.canonical) deep stands (λ e. something_canonical s.canonical document.root (not-false s.canonical e)) in
    subst (λ t. Awaits s.breaks12 depth t (with_document s documents document) (not document.end_implicit))
    (append_assoc (text ++ before) root (dots_if (not document.end_implicit)) ∙ append_assoc text before (root ++ dots_if (not document.end_implicit)))
    (ended_more s.breaks12 depth ((text ++ before) ++ root) (with_document s documents document) document.end_implicit
    (added_with_marker (not s.canonical) s depth (text ++ before) documents document
    (behind_prologue s depth text documents document.start ended awaits prologue)
    (root_fits s document (not s.canonical) deep stands) small stood))

-- the first document, without a marker
implicit_more : (s : Effective) (depth : ℕ) (document : Document) (ended : Bool) → 2 ≤ s.indent → RootStands s document false
    → size document.root ≤ depth → has_directives document.start ≡ false → is_written_as_nothing s.canonical document.root ≡ false
    → Awaits s.breaks12 depth (before_root s ended document.start ++ (root_part false s document ++ dots_if (not document.end_implicit)))
    (with_document s [] document) (not document.end_implicit)
implicit_more s depth document ended deep stands small none some =
    let stood = root_stood s document false deep stands (λ e. some) in
    subst (λ t. Awaits s.breaks12 depth (t ++ (root_part false s document ++ dots_if (not document.end_implicit))) (with_document s [] document)
    (not document.end_implicit))
    (sym (ap (λ x. dots_if (x && not ended) ++ prologue_text s document.start) none ∙ no_prologue_written s document.start none))
    (ended_more s.breaks12 depth (closed (render_root false s document)) (with_document s [] document) document.end_implicit
    (markerless_added s depth document none (root_fits s document false deep stands) small stood))

-- one without a marker has no directives
without_marker : (each first : Bool) (start : DocumentStart) → is_explicit each first start ≡ false → has_directives start ≡ false
without_marker each first start h = (or_parts (not start.implicit || not first || each) (has_directives start) h).1

-- one document more, that isn't the first
pub later_more : (s : Effective) (depth : ℕ) (text : Text) (documents : List DocumentTree) (document : Document) (ended : Bool) → 2 ≤ s.indent
    → DocumentStands s false document
    → size document.root ≤ depth → Awaits s.breaks12 depth text documents ended
    → Awaits s.breaks12 depth (text ++ document_text s false ended document) (with_document s documents document) (not document.end_implicit)
later_more s depth text documents document ended deep stands small awaits = grind (arith, explicit_more)

-- the first, if it isn't lost
pub first_more : (s : Effective) (depth : ℕ) (document : Document) → 2 ≤ s.indent → DocumentStands s true document → size document.root ≤ depth
    → (is_explicit (s.canonical || s.portable) true document.start ≡ false → is_written_as_nothing s.canonical document.root ≡ false)
    → Awaits s.breaks12 depth [] [] true
    → Awaits s.breaks12 depth (document_text s true true document) (with_document s [] document) (not document.end_implicit)
first_more s depth document deep stands small some awaits = by (is_explicit (s.canonical || s.portable) true document.start) refl stands.root
  where
    by : (x : Bool) → is_explicit (s.canonical || s.portable) true document.start ≡ x → RootStands s document (x && not s.canonical)
        → Awaits s.breaks12 depth (before_root s true document.start ++ (root_part x s document ++ dots_if (not document.end_implicit)))
        (with_document s [] document) (not document.end_implicit)
    by true e root = explicit_more s depth [] [] document true deep root stands.prologue small awaits
    by false e root = implicit_more s depth document true deep root small (without_marker (s.canonical || s.portable) true document.start e) (some e)
