-- The canonical reader finds a graph's content in the bytes of its dump, however deep it nests and however long they are.
use Rattle.yaml_read.proofs.Common.{[], ◌∷◌, ◌++◌, ◌≡◌, ◌∙◌, ℕ, true, false, Option, None, Some, List, refl, ap, subst, sym, All, All-head, All-tail, arith}
use Rattle.yaml_read.proofs.Common.{and_from, list_all, Text, encode, utf8, Event, document_end, documents_and, no_documents, document_events}
use Rattle.yaml_read.proofs.Common.{Graph, canonical_content, Isomorphic, option_and_then, unwrap_or, dumped_text, node_content, anchor_fault}
use Rattle.yaml_read.proofs.Common.{content_unfolds, same_shape, Unfolds, content_shape, BeginsNode, IsAnchor, IsInNode, is_alias, is_mapping, is_scalar}
use Rattle.yaml_read.proofs.Common.{is_sequence, AreDumpedBytes, unstyled_graph, in_document}
use Rattle.yaml_read.proofs.DumpedRuns.{dumped_bytes_run, run_is_dumped, same_parts}
use Rattle.yaml_read.proofs.OneGraph.{isomorphic_styled, styled_isomorphic}
use Rattle.yaml_base.proofs.Common.{DocumentContent, Node, TreeUnfolds, Content}
use Rattle.yaml_base.{proofs.DumpedLeaves.s, proofs.DumpedOutputs.bare_document, proofs.DumpedOutputs.stream_alone, proofs.DumpedOutputs.tree_text}
use Rattle.yaml_base.{specs.reading.Content.alias_content, specs.reading.Content.documents_content}
use Rattle.yaml_emitter.proofs.{canonical.Canonical.bytes_read, canonical.CanonicalSound.is_good_canonical, canonical.CanonicalSound.documents_ok}

-- ---- events

anchor_good : (anchor : Option Text) → IsAnchor anchor → option_and_then anchor_fault anchor ≡ None
anchor_good anchor h1 = grind arith

opening_good : (event : Event) → BeginsNode event → is_good_canonical event ≡ true
opening_good _ (is_alias name sound) = rw sound refl
opening_good _ (is_scalar anchor tag value parts) = rw (anchor_good anchor parts.anchor_sound, parts.tag_sound, parts.tag_scalars, parts.value_scalars) refl
opening_good _ (is_sequence anchor tag parts) = rw (anchor_good anchor parts.anchor_sound, parts.tag_sound, parts.tag_scalars) refl
opening_good _ (is_mapping anchor tag parts) = rw (anchor_good anchor parts.anchor_sound, parts.tag_sound, parts.tag_scalars) refl

event_good : (event : Event) → IsInNode event → is_good_canonical event ≡ true
event_good event h1 = grind (arith, opening_good)

node_good : (events : List Event) → All IsInNode events → list_all is_good_canonical (events ++ document_end true ∷ []) ≡ true
node_good [] all = refl
node_good (event ∷ events) all =
    and_from (is_good_canonical event) (list_all is_good_canonical (events ++ document_end true ∷ []))
    (event_good event (All-head IsInNode event events all)) (node_good events (All-tail IsInNode event events all))

run_good : (events : List Event) → All IsInNode events → list_all is_good_canonical (in_document events) ≡ true
run_good events all = node_good events all

-- ---- bytes

-- the canonical reader finds in a document's bytes its content
root_read : (root : Node) → list_all is_good_canonical (document_events (bare_document true root)) ≡ true
    → canonical_content false (encode (Some utf8) (dumped_text root)) ≡ Some (documents_content (documents_and no_documents (bare_document true root)))
root_read root good =
    let stream = stream_alone None (bare_document true root) in
    ap (λ t. canonical_content false (encode (Some utf8) t)) (sym (tree_text None true root))
    ∙ bytes_read s (omega arith) stream (documents_ok stream.documents good) false

-- a root that unfolds a graph without styles, and whose content is read of the bytes
record ReadsRoot (graph : Graph) (bytes : List ℕ) : Type 0 where
  root : Node
  unfolds : TreeUnfolds (unstyled_graph graph) root
  read : canonical_content false bytes ≡ Some (documents_content (documents_and no_documents (bare_document true root)))

dumped_reads : (graph : Graph) (bytes : List ℕ) → AreDumpedBytes graph bytes → ReadsRoot graph bytes
dumped_reads graph bytes dumped =
    let run = dumped_bytes_run _ _ dumped in
    let without = run_is_dumped _ _ _ _ run.whole run.is_list run.run run.in_node run.is in
    let has = without.is_dumped.events in
    let parts = same_parts _ _ _ _ _ _ (has.is_document ∙ run.is_list) in
    let good : list_all is_good_canonical (document_events (bare_document true has.document.root)) ≡ true =
    ap (λ events. list_all is_good_canonical (in_document events)) parts.inside ∙ run_good _ run.in_node in
    record {
      root = has.document.root;
      unfolds = without.is_dumped.unfolds;
      read = ap (canonical_content false) (sym without.is_encoded ∙ ap (λ (t : Text). encode (Some utf8) t) has.is_text) ∙ root_read has.document.root good;
    }

-- the content of the first root
abbrev first_root : List DocumentContent → Content
first_root [] = alias_content []
first_root (content ∷ rest) = content.root

-- documents whose dumps have the same bytes are isomorphic
pub one_graph : (one other : Graph) (bytes : List ℕ) → AreDumpedBytes one bytes → AreDumpedBytes other bytes → Isomorphic one other
one_graph one other bytes dumped also =
    let first = dumped_reads _ _ dumped in
    let second = dumped_reads _ _ also in
    let same : node_content first.root ≡ node_content second.root =
    ap (λ (found : Option (List DocumentContent)). first_root (unwrap_or found [])) (sym first.read ∙ second.read) in
    isomorphic_styled _ _ (styled_isomorphic _ _ (same_shape (unstyled_graph one) (unstyled_graph other) (content_shape (node_content first.root))
    (content_unfolds (unstyled_graph one) first.root first.unfolds)
    (subst (λ (content : Content). Unfolds false (unstyled_graph other) (content_shape content)) (sym same)
    (content_unfolds (unstyled_graph other) second.root second.unfolds))))
