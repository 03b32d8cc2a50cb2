-- How many collections are open: in a list's events, and in the partial tree that it is.
use Rattle.yaml_base.proofs.Common.{ℕ, ◌+◌, count_by, Option, Some, length, cond, false, true, List, [], ◌++◌, ◌∷◌, refl, ◌≡◌, ap, sym, ◌∙◌, arith}
use Rattle.yaml_base.proofs.Common.{sum_by-append, DocumentStart, Event, stream_start, stream_end, document_start, document_end, Node}
use Rattle.yaml_base.proofs.Common.{Nodes, sequence_node, Pairs, mapping_node, no_nodes, nodes_and, no_pairs, pairs_and, Document, Documents, no_documents}
use Rattle.yaml_base.proofs.Common.{documents_and, node_events, nodes_events, pairs_events, document_events, documents_events, Level, at_item, at_key}
use Rattle.yaml_base.proofs.Common.{at_value, Partial, before_stream, between_documents, within_document, after_root, after_stream, partial_of}
use Rattle.yaml_base.proofs.Common.{begins_collection, ends_collection, open_levels, open_count, Encoding}
use Rattle.yaml_base.proofs.Pushes.{level_events, levels_events, begun_events, partial_events, partial_of_events}

abbrev begins : List Event → ℕ
begins events = count_by begins_collection events

abbrev ends : List Event → ℕ
ends events = count_by ends_collection events

-- a list has as many collection starts as ends, and so many more
record Leaves (events : List Event) (left : ℕ) : Type 0 where
  counts : begins events ≡ ends events + left

begins-append : (a b : List Event) → begins (a ++ b) ≡ begins a + begins b
begins-append a b = sum_by-append (λ x. cond (begins_collection x) 1 0) a b

ends-append : (a b : List Event) → ends (a ++ b) ≡ ends a + ends b
ends-append a b = sum_by-append (λ x. cond (ends_collection x) 1 0) a b

both : (a b : List Event) (m n : ℕ) → Leaves a m → Leaves b n → Leaves (a ++ b) (m + n)
both a b m n h k = record { counts = omega (arith, begins-append a b, ends-append a b, h.counts, k.counts) }

-- one more start before a list, and one more end after it
started : (event : Event) (rest : List Event) (n : ℕ) → begins_collection event ≡ true → ends_collection event ≡ false → Leaves rest n
    → Leaves (event ∷ rest) (1 + n)
started event rest n begin end h =
    let b : begins (event ∷ []) ≡ 1 = ap (λ x. 0 + cond x 1 0) begin in
    let e : ends (event ∷ []) ≡ 0 = ap (λ x. 0 + cond x 1 0) end in
    record { counts = omega (arith, begins-append (event ∷ []) rest, ends-append (event ∷ []) rest, h.counts) }

ended : (event : Event) (inside : List Event) → begins (event ∷ []) ≡ 0 → ends (event ∷ []) ≡ 1 → Leaves inside 1 → Leaves (inside ++ event ∷ []) 0
ended event inside none one h =
    record { counts = omega (arith, begins-append inside (event ∷ []), ends-append inside (event ∷ []), h.counts) }

mutual
  node_leaves : (n : Node) → Leaves (node_events n) 0
  node_leaves (sequence_node c items) =
      ended _ _ refl refl (started _ _ 0 refl refl (nodes_leave items))
  node_leaves (mapping_node c pairs) =
      ended _ _ refl refl (started _ _ 0 refl refl (pairs_leave pairs))
  node_leaves _ = record { counts = refl }

  nodes_leave : (items : Nodes) → Leaves (nodes_events items) 0
  nodes_leave no_nodes = record { counts = refl }
  nodes_leave (nodes_and items last) = both _ _ 0 0 (nodes_leave items) (node_leaves last)

  pairs_leave : (pairs : Pairs) → Leaves (pairs_events pairs) 0
  pairs_leave no_pairs = record { counts = refl }
  pairs_leave (pairs_and pairs key value) =
      both _ _ 0 0 (pairs_leave pairs) (both _ _ 0 0 (node_leaves key) (node_leaves value))

-- an event that is neither
none_more : (event : Event) (rest : List Event) (n : ℕ) → begins_collection event ≡ false → ends_collection event ≡ false → Leaves rest n
    → Leaves (event ∷ rest) n
none_more event rest n begin end h = grind (arith, begins-append, ends-append)

document_leaves : (x : Document) → Leaves (document_events x) 0
document_leaves x =
    none_more (document_start x.start) (node_events x.root ++ document_end x.end_implicit ∷ []) 0 refl refl
    (both (node_events x.root) (document_end x.end_implicit ∷ []) 0 0 (node_leaves x.root) (record { counts = refl }))

documents_leave : (d : Documents) → Leaves (documents_events d) 0
documents_leave no_documents = record { counts = refl }
documents_leave (documents_and d x) = both (documents_events d) (document_events x) 0 0 (documents_leave d) (document_leaves x)

level_leaves : (level : Level) → Leaves (level_events level) 1
level_leaves (at_item c items) = started _ _ 0 refl refl (nodes_leave items)
level_leaves (at_key c pairs) = started _ _ 0 refl refl (pairs_leave pairs)
level_leaves (at_value c pairs key) =
    started _ _ 0 refl refl (both _ _ 0 0 (pairs_leave pairs) (node_leaves key))

levels_leave : (levels : List Level) → Leaves (levels_events levels) (length levels)
levels_leave [] = record { counts = refl }
levels_leave (level ∷ outer) =
    let h = both (levels_events outer) (level_events level) (length outer) 1 (levels_leave outer) (level_leaves level) in
    record { counts = omega (arith, h.counts) }

begun_leaves : (e : Option Encoding) (d : Documents) (s : DocumentStart) (inside : List Event) (n : ℕ) → Leaves inside n → Leaves (begun_events e d s inside) n
begun_leaves e d s inside n h =
    let given = both _ inside 0 n (none_more (stream_start e) (documents_events d ++ document_start s ∷ []) 0 refl refl
    (both _ _ 0 0 (documents_leave d) (record { counts = refl }))) h in
    record { counts = omega (arith, given.counts) }

partial_leaves : (p : Partial) → Leaves (partial_events p) (length (open_levels p))
partial_leaves before_stream = record { counts = refl }
partial_leaves (between_documents e d) = none_more (stream_start e) (documents_events d) 0 refl refl (documents_leave d)
partial_leaves (within_document e d s levels) = begun_leaves e d s (levels_events levels) (length levels) (levels_leave levels)
partial_leaves (after_root e d s root) = begun_leaves e d s (node_events root) 0 (node_leaves root)
partial_leaves (after_stream t) =
    none_more (stream_start t.encoding) (documents_events t.documents ++ stream_end ∷ []) 0 refl refl
    (both (documents_events t.documents) (stream_end ∷ []) 0 0 (documents_leave t.documents) (record { counts = refl }))

-- The open collections of a list's partial tree are those that its events leave open.
pub open_count-levels : (events : List Event) (p : Partial) → partial_of events ≡ Some p → open_count events ≡ length (open_levels p)
open_count-levels events p given =
    let h = partial_leaves p in
    sym (ap open_count (partial_of_events events p given)) ∙ omega (arith, h.counts)
