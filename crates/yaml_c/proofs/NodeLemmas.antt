-- Pairs read from numbers, documents of nodes, and the events of a document's root.
use Rattle.yaml_c.proofs.Common.{ℕ, ℤ, ◌+◌, ◌<◌, ◌≤◌, Option, None, Some, drop, length, slice_index_or as get_or, Bool, true, false, List, [], map, ◌++◌}
use Rattle.yaml_c.proofs.Common.{◌∷◌, refl, ◌≡◌, ap, sym, ◌∙◌, at_drop_more}
use Rattle.std.specs.Prelude.{◌==◌, IsSome, option_to_list, remove}
use Rattle.std.proofs.Common.{arith}
use Rattle.std.proofs.lemmas.List.{append-nil, at_drop_all, drop-map, length-append, length-map, map-append, same_from_push}
use Rattle.yaml_base.proofs.Common.{all_numbers, first_outside}
use Rattle.yaml_base.proofs.NumbersOutside.{whole_graph}
use Rattle.yaml_base.specs.Event.{document_end, document_start}
use Rattle.yaml_base.specs.Seen.{seen_event}
use Rattle.yaml_base.specs.Settings.{largest_i32}
use Rattle.yaml_base.specs.declared.events.yaml_event_t.{yaml_event_t}
use Rattle.yaml_base.specs.declared.nodes.yaml_node_t.{yaml_node_t}
use Rattle.yaml_base.specs.graphs.Meetings.{Graph, GraphNode, NumberPair, document_event_list, is_whole, string_tag}
use Rattle.yaml_base.specs.graphs.SeenNodes.{seen_node, seen_number}
use Rattle.yaml_dump.proofs.Common.{nat_tests}
use Rattle.yaml_dump.proofs.ComposingLemmas.{whole_names}
use Rattle.yaml_c.proofs.ReadingLemmas.{behind, behind_more}
use Rattle.yaml_c.specs.NodeRecords.{document_with, graph_with, kind_tag, pairs_recorded, root_events}

-- the tag of the nodes that are no collections
pub other_kind : (kind : ℕ) → (kind ≡ 2 → ⊥) → (kind ≡ 3 → ⊥) → string_tag ≡ kind_tag kind
other_kind kind no_sequence no_mapping = grind (arith, nat_tests)

-- ---- pairs

module _ (all : List ℤ) (i : ℕ) (so_far : List NumberPair) (parts : pairs_recorded all ≡ behind so_far (pairs_recorded (drop i all))) where
  -- one more was read
  pub pairs_more : (d e : ℤ) → i + 1 < length all
      → pairs_recorded all
      ≡ behind (so_far ++ record { key = seen_number (get_or all i d); value = seen_number (get_or all (i + 1) e) } ∷ []) (pairs_recorded (drop (i + 2) all))
  pairs_more d e low =
      let next : NumberPair = record { key = seen_number (get_or all i d); value = seen_number (get_or all (i + 1) e) } in
      let two : i + 1 + 1 ≡ i + 2 = omega arith in
      parts
      ∙ at_drop_more (λ (xs : List ℤ). behind so_far (pairs_recorded xs)) all i d (omega (arith, low))
      ∙ at_drop_more (λ (xs : List ℤ). behind so_far (pairs_recorded (get_or all i d ∷ xs))) all (i + 1) e low
      ∙ behind_more so_far next (pairs_recorded (drop (i + 1 + 1) all))
      ∙ ap (λ (n : ℕ). behind (so_far ++ next ∷ []) (pairs_recorded (drop n all))) two

  -- the last key has no value
  pub pairs_odd : (d : ℤ) → i + 1 ≡ length all → None ≡ pairs_recorded all
  pairs_odd d last =
      sym
      (parts
      ∙ at_drop_more (λ (xs : List ℤ). behind so_far (pairs_recorded xs)) all i d (omega (arith, last))
      ∙ at_drop_all (λ (xs : List ℤ). behind so_far (pairs_recorded (get_or all i d ∷ xs))) all (i + 1) (omega (arith, last)))

  -- all were read
  pub pairs_all : length all ≤ i → Some so_far ≡ pairs_recorded all
  pairs_all past =
      sym
      (parts
      ∙ at_drop_all (λ (xs : List ℤ). behind so_far (pairs_recorded xs)) all i past
      ∙ ap (λ (xs : List NumberPair). Some xs) (append-nil so_far))

-- ---- documents

refuted : (answer : Bool) → (answer ≡ true → ⊥) → answer ≡ false
refuted true is_not = absurd (is_not refl)
refuted false is_not = refl

module _ {A : Type 0} (nodes : List (yaml_node_t A)) where
  pub no_document : (length nodes ≡ 0 → ⊥) → length nodes ≤ largest_i32 → (number : ℤ)
      → first_outside (length nodes) (all_numbers nodes) ≡ Some number → None ≡ document_with (map seen_node nodes)
  no_document some few number outside =
      let graph = graph_with (map seen_node nodes) in
      let other : is_whole graph ≡ false =
      refuted (is_whole graph) (λ whole. let no : None ≡ Some number = sym (whole_names graph nodes whole refl) ∙ outside in cc) in
      grind (arith, nat_tests, other)

  pub is_document : (length nodes ≡ 0 → ⊥) → length nodes ≤ largest_i32 → first_outside (length nodes) (all_numbers nodes) ≡ None
      → Some (graph_with (map seen_node nodes)) ≡ document_with (map seen_node nodes)
  is_document some few none =
      let whole : is_whole (graph_with (map seen_node nodes)) ≡ true = whole_graph None [] nodes true true none in
      grind (arith, nat_tests, whole, length-map nodes seen_node)

-- a document has nodes
pub has_nodes : (nodes : List GraphNode) (graph : Graph) → Some graph ≡ document_with nodes → (length graph.nodes == 0) ≡ false
has_nodes [] graph is = cc
has_nodes (node ∷ rest) graph is = grind (arith, nat_tests)

-- ---- the events of a document's root

pub one_at_most : {X : Type 0} (found : Option X) → length (option_to_list found) ≤ 1
one_at_most None = omega arith
one_at_most (Some found) = omega arith

module _ (graph : Graph) (some : (length graph.nodes == 0) ≡ false) where
  all_events : document_event_list graph ≡ document_start graph.start ∷ (root_events graph ++ document_end graph.end_implicit ∷ [])
  all_events = grind (arith, nat_tests, some)

  module _ {A : Type 0} (all : List (yaml_event_t A)) (are : map seen_event all ≡ document_event_list graph) where
    pub two_events : 1 < length all
    two_events =
        omega (
          arith,
          sym (length-map all seen_event) ∙ ap length (are ∙ all_events),
          length-append (root_events graph) (document_end graph.end_implicit ∷ []),
        )

    pub without_ends : (popped : List (yaml_event_t A)) (last : Option (yaml_event_t A)) → all ≡ popped ++ option_to_list last → IsSome last
        → map seen_event (remove popped 0) ≡ root_events graph
    without_ends popped None cut some_last = absurd (cc some_last)
    without_ends popped (Some last) cut some_last =
        let ends : map seen_event popped ++ seen_event last ∷ [] ≡ (document_start graph.start ∷ root_events graph) ++ document_end graph.end_implicit ∷ [] =
        sym (map-append seen_event popped (last ∷ [])) ∙ ap (map seen_event) (sym cut) ∙ are ∙ all_events in
        let front = (same_from_push (map seen_event popped) (document_start graph.start ∷ root_events graph) (seen_event last)
        (document_end graph.end_implicit) ends).0 in
        sym (drop-map seen_event 1 popped) ∙ ap (drop 1) front
