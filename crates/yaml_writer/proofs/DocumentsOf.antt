-- Streams of documents without directives, one for each of some nodes, and their reading.
use Rattle.yaml_writer.proofs.Common.{ℕ, Bool, true, false, not, Option, None, Some, List, [], map, ◌++◌, ◌∷◌, refl, ◌≡◌, append-nil, append_assoc, ap, subst, sym}
use Rattle.yaml_writer.proofs.Common.{◌∙◌, and_from, and_right, or_from, not_from_false, option_map, list_all, list_any, Event, stream_end, document_end, Settings}
use Rattle.yaml_writer.proofs.Common.{Effective, IsAccepted, settings_for, plain_start}
use Rattle.yaml_base.proofs.Common.{flat_map, unwrap_or, stream_start, Node, Document, Documents, no_documents, documents_and, Stream, DocumentTree, Tree}
use Rattle.yaml_base.proofs.Common.{node_events, document_events, documents_events, stream_events, documents_in_order, directives_in_force, root_place}
use Rattle.yaml_base.proofs.Common.{is_explicit, is_written_as_nothing, loses_document, document_has_flow_indicator, all_read_alike, reads_alike, tree_of}
use Rattle.yaml_base.proofs.Common.{has_scalar_texts, stream_trees}
use Rattle.yaml_base.proofs.{Trees.tree_of-stream_events, stream_documents.StreamWholeReads.document_trees}
use Rattle.yaml_base.proofs.stream_nodes.StreamAgrees.{node_tree, document_tree}
use Rattle.yaml_base.specs.StreamLaw.{node_has_flow_indicator}
use Rattle.yaml_emitter.proofs.layouts.StreamsReadBack.{stream_found}
use Rattle.yaml_writer.specs.Means.{plain_document}
use Rattle.yaml_writer.specs.Writing.{opening, closing}
use Rattle.yaml_writer.proofs.WholeStreams.{IsWhole}

-- ---- the stream

abbrev pub document_of : Node → Document
document_of root = record { start = record { version = None; directives = []; implicit = true }; root = root; end_implicit = true }

-- a document of each node, after others
abbrev documents_of : List Node → Documents → Documents
documents_of [] before = before
documents_of (root ∷ roots) before = documents_of roots (documents_and before (document_of root))

abbrev pub stream_of : List Node → Stream
stream_of roots = record { encoding = None; documents = documents_of roots no_documents }

-- the events of the nodes, a document each, within the start of the first document and the end of the last
abbrev pub events_apart : List Node → List Event
events_apart [] = []
events_apart (root ∷ []) = node_events root
events_apart (root ∷ next ∷ rest) = node_events root ++ document_end true ∷ plain_start ∷ events_apart (next ∷ rest)

abbrev root_events : Node → List Event
root_events root = plain_start ∷ (node_events root ++ document_end true ∷ [])

documents_flat : (roots : List Node) (before : Documents) → documents_events (documents_of roots before) ≡ documents_events before ++ flat_map root_events roots
documents_flat [] before = sym (append-nil (documents_events before))
documents_flat (root ∷ roots) before =
    documents_flat roots (documents_and before (document_of root))
    ∙ append_assoc (documents_events before) (document_events (document_of root)) (flat_map root_events roots)

roots_flat : (root : Node) (rest : List Node) → flat_map root_events (root ∷ rest) ≡ plain_start ∷ (events_apart (root ∷ rest) ++ document_end true ∷ [])
roots_flat root [] = append-nil (root_events root)
roots_flat root (next ∷ rest) =
    let first = node_events root in
    let later = events_apart (next ∷ rest) in
    ap (λ (events : List Event). root_events root ++ events) (roots_flat next rest)
    ∙ ap (λ (events : List Event). plain_start ∷ events)
    (append_assoc first (document_end true ∷ []) (plain_start ∷ (later ++ document_end true ∷ []))
    ∙ sym (append_assoc first (document_end true ∷ plain_start ∷ later) (document_end true ∷ [])))

pub stream_flat : (root : Node) (rest : List Node) → stream_events (stream_of (root ∷ rest)) ≡ opening ++ events_apart (root ∷ rest) ++ closing
stream_flat root rest =
    ap (λ (events : List Event). stream_start None ∷ (events ++ stream_end ∷ [])) (documents_flat (root ∷ rest) no_documents ∙ roots_flat root rest)
    ∙ ap (λ (events : List Event). stream_start None ∷ plain_start ∷ events)
    (append_assoc (events_apart (root ∷ rest)) (document_end true ∷ []) (stream_end ∷ []))

-- ---- it is written alike in every mode

-- no tag in the nodes has a flow indicator
abbrev pub AreUnsigned : (canonical : Bool) → List Node → Type 0
AreUnsigned canonical [] = Unit {0}
AreUnsigned canonical (root ∷ roots) = (node_has_flow_indicator canonical (directives_in_force []) root ≡ false) × AreUnsigned canonical roots

documents_are : (roots : List Node) (before : Documents) → documents_in_order (documents_of roots before) ≡ documents_in_order before ++ map document_of roots
documents_are [] before = sym (append-nil (documents_in_order before))
documents_are (root ∷ roots) before =
    documents_are roots (documents_and before (document_of root))
    ∙ append_assoc (documents_in_order before) (document_of root ∷ []) (map document_of roots)

all_unsigned : (canonical : Bool) (roots : List Node) → AreUnsigned canonical roots
    → list_any (document_has_flow_indicator canonical) (map document_of roots) ≡ false
all_unsigned canonical [] each = refl
all_unsigned canonical (root ∷ roots) each =
    or_from (document_has_flow_indicator canonical (document_of root)) (list_any (document_has_flow_indicator canonical) (map document_of roots)) each.0
    (all_unsigned canonical roots each.1)

are_read_alike : (canonical : Bool) (root : Node) (rest : List Node) → is_written_as_nothing canonical root ≡ false → AreUnsigned canonical (root ∷ rest)
    → all_read_alike canonical (map document_of (root ∷ rest)) ≡ true
are_read_alike canonical root rest written each =
    let documents = map document_of (root ∷ rest) in
    and_from (not (loses_document canonical documents)) (not (list_any (document_has_flow_indicator canonical) documents))
    (not_from_false (loses_document canonical documents)
    (and_right (not (is_explicit canonical true (document_of root).start)) (is_written_as_nothing canonical root) written))
    (not_from_false (list_any (document_has_flow_indicator canonical) documents) (all_unsigned canonical (root ∷ rest) each))

written_alike : (portable canonical : Bool) (root : Node) (rest : List Node) → is_written_as_nothing canonical root ≡ false
    → AreUnsigned canonical (root ∷ rest) → reads_alike portable canonical (opening ++ events_apart (root ∷ rest) ++ closing) ≡ true
written_alike true canonical root rest written each = refl
written_alike false canonical root rest written each =
    ap (λ (tree : Option Stream). unwrap_or (option_map (λ stream. all_read_alike canonical (documents_in_order stream.documents)) tree) false)
    (ap tree_of (sym (stream_flat root rest)) ∙ tree_of-stream_events (stream_of (root ∷ rest)))
    ∙ ap (all_read_alike canonical) (documents_are (root ∷ rest) no_documents) ∙ are_read_alike canonical root rest written each

-- ---- its reading

abbrev pub tree_by : Effective → Node → Tree
tree_by s root = node_tree root s (directives_in_force []) root_place

trees_after : (s : Effective) (roots : List Node) (before : Documents)
    → document_trees s (documents_of roots before) ≡ document_trees s before ++ map plain_document (map (tree_by s) roots)
trees_after s [] before = sym (append-nil (document_trees s before))
trees_after s (root ∷ roots) before =
    trees_after s roots (documents_and before (document_of root))
    ∙ append_assoc (document_trees s before) (document_tree s (document_of root) ∷ []) (map plain_document (map (tree_by s) roots))

module _ (given : Settings) (root : Node) (rest : List Node) (bytes : List ℕ) (written : is_written_as_nothing given.canonical root ≡ false)
    (each : AreUnsigned given.canonical (root ∷ rest)) where
  -- the trees that are found in the bytes of the stream of these events
  abbrev Finds : List Event → Type 0
  Finds events =
      list_all has_scalar_texts (opening ++ events ++ closing) ≡ true → IsAccepted given.canonical (opening ++ events ++ closing)
      → IsWhole given (opening ++ events ++ closing) bytes
      → stream_trees given.breaks12 bytes ≡ Some (map plain_document (map (tree_by (settings_for given (opening ++ events ++ closing))) (root ∷ rest)))

  found : Finds (events_apart (root ∷ rest))
  found texts taken whole =
      let all = opening ++ events_apart (root ∷ rest) ++ closing in
      ap (stream_trees given.breaks12) whole
      ∙ stream_found given None all
      (record { stream = stream_of (root ∷ rest); is_stream = stream_flat root rest; sound = taken.sound; shallow = taken.shallow }) texts
      (written_alike given.portable given.canonical root rest written each)
      ∙ ap (λ (trees : List DocumentTree). Some trees) (trees_after (settings_for given all) (root ∷ rest) no_documents)

  pub trees_found : (events : List Event) → events_apart (root ∷ rest) ≡ events → Finds events
  trees_found events same = subst Finds same found
