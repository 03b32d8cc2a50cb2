-- Trees that unfold a graph, and trees that don't.
use Rattle.yaml_base.proofs.Common.{suc, zero, ℕ, Contains, count_by, None, Some, codes, true, [], ◌∷◌, ◌⊎◌, refl, ◌≡◌, inl, inr, arith, nat_tests, any_style}
use Rattle.yaml_base.proofs.Common.{block, Node, alias_node, scalar_node, sequence_node, mapping_node, no_nodes, nodes_and, no_pairs, pairs_and}
use Rattle.yaml_base.proofs.Common.{document_events, Graph, children, string_tag, sequence_tag, mapping_tag, document_event_list, node_shape_of, Placed}
use Rattle.yaml_base.proofs.Common.{alias_placed, node_placed, none_placed, placed_and, number_at, HasShape, alias_occurrence, node_occurrence, occurrences}
use Rattle.yaml_base.proofs.Common.{is_occurrence_of, IsReached, first_reached, child_reached, TreeUnfolds, ContentUnfolds, node_content, Option, Text}
use Rattle.yaml_base.{proofs.Common.ScalarStyle, specs.graphs.Meetings.decimal_digits}
use Rattle.yaml_base.proofs.rows.RowsMeetings.{graph_of, mapping_of, sequence_of, string_of}

-- a mapping whose one key is a string, and whose value is the mapping
abbrev graph : Graph
graph = graph_of (mapping_of (record { key = 2; value = 1 } ∷ []) ∷ string_of (codes "k") ∷ [])

-- a string, and a sequence of two items
abbrev pub a_string : Option Text → Text → ScalarStyle → Node
a_string anchor value style = scalar_node
    (record { anchor = anchor; tag = Some string_tag; value = value; plain_implicit = true; quoted_implicit = true; style = style })

abbrev pub a_sequence : Option Text → Node → Node → Node
a_sequence anchor first second = sequence_node (record { anchor = anchor; tag = Some sequence_tag; implicit = true; style = block })
    (nodes_and (nodes_and no_nodes first) second)

abbrev tree : Node
tree =
    mapping_node (record { anchor = Some (codes "id001"); tag = Some mapping_tag; implicit = true; style = block })
    (pairs_and no_pairs (a_string None (codes "k") any_style) (alias_node (codes "id001")))

-- its events are those of the document
its_events : document_events (record { start = graph.start; root = tree; end_implicit = graph.end_implicit }) ≡ document_event_list graph
unfolding decimal_digits
its_events = refl

-- only nodes 1 and 2 are reached
held_by_one : (child : ℕ) → Contains (2 ∷ 1 ∷ []) child → (child ≡ 1) ⊎ (child ≡ 2)
held_by_one child h = grind (arith, nat_tests)

pub held_by_none : (child : ℕ) → Contains [] child → ⊥
held_by_none child (k, below, e) = omega (arith, below)

reached : {number : ℕ} → IsReached graph number → (number ≡ 1) ⊎ (number ≡ 2)
reached first_reached = inl refl
reached (child_reached {number = parent} {child = child} r held) = grind (arith, held_by_one, held_by_none, reached r)

abbrev placed_tree : Placed
placed_tree = node_placed (Some (codes "id001")) 1 (placed_and (placed_and none_placed (node_placed None 2 none_placed)) (alias_placed (codes "id001") 1))

stands_once : (number : ℕ) → IsReached graph number → count_by (is_occurrence_of number) (occurrences placed_tree) ≡ 1
stands_once number r = elim (reached r) as (λ _. count_by (is_occurrence_of number) (occurrences placed_tree) ≡ 1) [ inl e ↦ rw e refl | inr e ↦ rw e refl ]

stands_nowhere : (number : ℕ) → (IsReached graph number → ⊥) → count_by (is_occurrence_of number) (occurrences placed_tree) ≡ 0
stands_nowhere zero unreached = refl
stands_nowhere (suc zero) unreached = absurd (unreached first_reached)
stands_nowhere (suc (suc zero)) unreached = absurd (unreached (child_reached first_reached (0, omega arith, refl)))
stands_nowhere (suc (suc (suc n))) unreached = grind (arith, nat_tests)

unfolds : TreeUnfolds graph tree
unfolds =
    record {
      placed = placed_tree;
      root = refl;
      fits = (refl, refl, refl, ((tt, (refl, refl, refl, tt)), refl));
      named = (tt, (tt, ((refl, (0, omega arith, refl)), tt)));
      once = stands_once;
      no_other = stands_nowhere;
    }

content_unfolds : ContentUnfolds graph (node_content tree)
content_unfolds = record {
  placed = placed_tree;
  root = refl;
  fits = (refl, refl, refl, ((tt, (refl, refl, refl, tt)), refl));
  named = (tt, (tt, ((refl, (0, omega arith, refl)), tt)));
  once = stands_once;
  no_other = stands_nowhere;
}

-- ---- a tree that doesn't unfold its graph: the second of two equal nodes is written as an alias of the first

abbrev two_equal : Graph
two_equal = graph_of (sequence_of (2 ∷ 3 ∷ []) ∷ string_of (codes "k") ∷ string_of (codes "k") ∷ [])

abbrev one_for_two : Node
one_for_two = a_sequence None (a_string (Some (codes "id001")) (codes "k") any_style) (alias_node (codes "id001"))

third_reached : IsReached two_equal 3
third_reached = child_reached first_reached (1, omega arith, refl)

-- node 3 would have no place but the alias
third_missing : (number first second : ℕ) → number ≡ 1 → first ∷ second ∷ [] ≡ children two_equal number
    → count_by (is_occurrence_of 3) (node_occurrence None number ∷ node_occurrence (Some (codes "id001")) first ∷ alias_occurrence
    (codes "id001") second ∷ []) ≡ 1 → ⊥
third_missing number first second root numbers once = grind (arith)

refuted : (p : Placed) → number_at p ≡ 1 → HasShape true two_equal p (node_shape_of one_for_two)
    → ((number : ℕ) → IsReached two_equal number → count_by (is_occurrence_of number) (occurrences p) ≡ 1) → ⊥
refuted p h h2 h3 = grind (arith, nat_tests, third_missing, third_reached)

one_for_two_refused : TreeUnfolds two_equal one_for_two → ⊥
one_for_two_refused u = refuted u.placed u.root u.fits u.once
