-- The events of a document compose the nodes that its walk enters.
use Rattle.yaml_dump.proofs.Common.{nat_tests}
use Rattle.yaml_base.proofs.Common.{ℕ, ◌<◌, ◌≤◌, ◌==◌, Option, None, Some, length, replicate, Bool, if◌then◌else◌, cond, not, List, [], map}
use Rattle.yaml_base.proofs.Common.{◌++◌, ◌∷◌, refl, ◌≡◌, length-append, append-nil, append_assoc, ap, subst, sym, ◌∙◌, arith, map-append, flat_map, filter}
use Rattle.yaml_base.proofs.Common.{filter_map, fold, Text, Graph, GraphNode, Held, scalar_held, sequence_held, mapping_held, numbers_held, document_event_list}
use Rattle.yaml_base.proofs.Common.{Step, enters, leaves, meets_again, anchor_of, shared_nodes, first_of_each, node_met_again, node_numbered, children, Event}
use Rattle.yaml_base.proofs.Common.{step_events, document_start, document_end, Placed, alias_placed, node_placed, PlacedNodes, none_placed, placed_and}
use Rattle.yaml_base.proofs.Common.{number_at, numbers_at, IsWholeGraph, ScalarStyle, opening_event_of, closing_event_of}
use Rattle.yaml_base.specs.{Settings.largest_usize, graphs.Meetings.graph_steps}
use Rattle.std.proofs.{lemmas.List.Sums.fold-append, lemmas.List.length-replicate}
use Rattle.yaml_dump.specs.Composition.{node_begun, Composition, collection_begun, ended, composed, nothing_composed}
use Rattle.yaml_base.proofs.UnfoldSteps.{IsOrderly}
use Rattle.yaml_base.proofs.UnfoldTrees.{placed_steps, below_steps, Fits, AllFit}
use Rattle.yaml_dump.specs.InOrder.{entered_nodes, number_in_order, nodes_in, in_order}
use Rattle.yaml_dump.proofs.{InOrderLemmas.walk_of, CarrierLemmas.carries_none}
use Rattle.yaml_dump.proofs.CompositionLemmas.{order_of, StandsBehind, Composes, composes_none, composes_then, alias_composes, scalar_composes, emptied, behind}
use Rattle.yaml_dump.proofs.CompositionLemmas.{collection_composes, opened_stands, behind_both, behind_entry, behind_leave, none_below}

-- the steps of a node, and those after them
abbrev over_node : ℕ → PlacedNodes → List Step
over_node number below = enters number ∷ (below_steps below ++ leaves number ∷ [])

regrouped : (before below after : List Step) (number : ℕ)
    → before ++ ((enters number ∷ (below ++ leaves number ∷ [])) ++ after) ≡ before ++ enters number ∷ (below ++ leaves number ∷ after)
regrouped before below after number = ap (λ (rest : List Step). before ++ enters number ∷ rest) (append_assoc below (leaves number ∷ []) after)

-- after a collection: it was opened, its children came, it ended
behind_collection : (graph : Graph) (number : ℕ) (node : GraphNode) (below : List Step) (standing first last : Composition)
    → node_numbered graph number ≡ Some node
    → composed standing (opening_event_of (anchor_of (graph_steps graph) number) node.tag node.held) ≡ first
    → fold composed (behind graph below first) (closing_event_of node.held) ≡ last
    → behind graph (enters number ∷ (below ++ leaves number ∷ [])) standing ≡ last
behind_collection graph number node below standing first last is opens closes =
    behind_entry graph number node (below ++ leaves number ∷ []) standing is
    ∙ ap (behind graph (below ++ leaves number ∷ [])) opens
    ∙ behind_both graph below (leaves number ∷ []) first
    ∙ behind_leave graph number node (behind graph below first) is
    ∙ closes

collection_runs : (graph : Graph) (before after : List Step) (number : ℕ) (below : PlacedNodes) (tag : Text) (held : Held) (standing : Composition)
    → IsOrderly graph (graph_steps graph)
    → graph_steps graph ≡ before ++ (over_node number below ++ after) → StandsBehind graph before standing
    → node_numbered graph number ≡ Some (record { tag = tag; held = held }) → numbers_at below ≡ numbers_held held
    → ((next : Composition) → StandsBehind graph (before ++ enters number ∷ []) next
    → Composes graph (before ++ enters number ∷ []) (below_steps below) (map (number_in_order (order_of graph)) (numbers_at below)) next
    (behind graph (below_steps below) next))
    → ((next : Composition) → composed next (opening_event_of (anchor_of (graph_steps graph) number) tag held)
    ≡ collection_begun (anchor_of (graph_steps graph) number) tag (emptied held) next)
    → ((next : Composition) → fold composed next (closing_event_of held) ≡ ended next.unended next)
    → Composes graph before (over_node number below) (number_in_order (order_of graph) number ∷ []) standing (behind graph (over_node number below) standing)
collection_runs graph before after number below tag held standing orderly is stands node numbers inner opens closes =
    let turns : graph_steps graph ≡ before ++ enters number ∷ (below_steps below ++ leaves number ∷ after) = is
    ∙ regrouped before (below_steps below) after number in
    let first = collection_begun (anchor_of (graph_steps graph) number) tag (emptied held) standing in
    let next = behind graph (below_steps below) first in
    let all = behind_collection graph number (record { tag = tag; held = held }) (below_steps below) standing first (ended next.unended next)
    node (opens standing) (closes next) in
    let children = inner first
    (opened_stands graph before (below_steps below ++ leaves number ∷ after) number tag (emptied held) standing orderly turns stands) in
    subst (Composes graph before (over_node number below) (number_in_order (order_of graph) number ∷ []) standing) (sym all)
    (collection_composes graph before (below_steps below) after number tag held standing next orderly turns stands node
    (subst (λ (met : List ℕ). Composes graph (before ++ enters number ∷ []) (below_steps below) (map (number_in_order (order_of graph)) met) first next) numbers
    children))

scalar_runs : (graph : Graph) (before after : List Step) (number : ℕ) (tag : Text) (value : Text) (style : ScalarStyle) (standing : Composition)
    → IsOrderly graph (graph_steps graph)
    → graph_steps graph ≡ before ++ (over_node number none_placed ++ after) → StandsBehind graph before standing
    → node_numbered graph number ≡ Some (record { tag = tag; held = scalar_held value style })
    → Composes graph before (over_node number none_placed) (number_in_order (order_of graph) number ∷ []) standing
    (behind graph (over_node number none_placed) standing)
scalar_runs graph before after number tag value style standing orderly is stands node =
    let last = node_begun (anchor_of (graph_steps graph) number) tag (scalar_held value style) standing in
    subst (Composes graph before (over_node number none_placed) (number_in_order (order_of graph) number ∷ []) standing)
    (sym (behind_collection graph number (record { tag = tag; held = scalar_held value style }) [] standing last last node refl refl))
    (scalar_composes graph before after number tag (scalar_held value style) standing orderly is stands node refl)

node_runs : (graph : Graph) (before after : List Step) (number : ℕ) (below : PlacedNodes) (tag : Text) (held : Held) (standing : Composition)
    → IsOrderly graph (graph_steps graph)
    → graph_steps graph ≡ before ++ (over_node number below ++ after) → StandsBehind graph before standing
    → node_numbered graph number ≡ Some (record { tag = tag; held = held }) → numbers_at below ≡ numbers_held held
    → ((next : Composition) → StandsBehind graph (before ++ enters number ∷ []) next
    → Composes graph (before ++ enters number ∷ []) (below_steps below) (map (number_in_order (order_of graph)) (numbers_at below)) next
    (behind graph (below_steps below) next))
    → Composes graph before (over_node number below) (number_in_order (order_of graph) number ∷ []) standing (behind graph (over_node number below) standing)
node_runs graph before after number below tag (scalar_held value style) standing orderly is stands node numbers inner =
    let none = none_below below numbers in
    subst (λ (all : PlacedNodes). Composes graph before (over_node number all) (number_in_order (order_of graph) number ∷ []) standing
    (behind graph (over_node number all) standing)) (sym none)
    (scalar_runs graph before after number tag value style standing orderly
    (subst (λ (all : PlacedNodes). graph_steps graph ≡ before ++ (over_node number all ++ after)) none is) stands node)
node_runs graph before after number below tag (sequence_held items style) standing orderly is stands node numbers inner =
    collection_runs graph before after number below tag (sequence_held items style) standing orderly is stands node numbers inner (λ next. refl) (λ next. refl)
node_runs graph before after number below tag (mapping_held pairs style) standing orderly is stands node numbers inner =
    collection_runs graph before after number below tag (mapping_held pairs style) standing orderly is stands node numbers inner (λ next. refl) (λ next. refl)

children_of : (graph : Graph) (number : ℕ) (node : GraphNode) → node_numbered graph number ≡ Some node → children graph number ≡ numbers_held node.held
children_of graph number node is = ap (λ (found : Option GraphNode). elim found as (λ _. List ℕ) [ None ↦ [] | Some one ↦ numbers_held one.held ]) is

mutual
  pub tree_runs : (graph : Graph) (placed : Placed) (before after : List Step) (standing : Composition) → IsOrderly graph (graph_steps graph)
      → graph_steps graph ≡ before ++ (placed_steps placed ++ after) → Fits (anchor_of (graph_steps graph)) graph placed → StandsBehind graph before standing
      → Composes graph before (placed_steps placed) (number_in_order (order_of graph) (number_at placed) ∷ []) standing
      (behind graph (placed_steps placed) standing)
  tree_runs graph (alias_placed name number) before after standing orderly is fits stands =
      alias_composes graph before after number name standing orderly is stands
  tree_runs graph (node_placed anchor number below) before after standing orderly is fits stands =
      let node = fits.1.node in
      node_runs graph before after number below node.tag node.held standing orderly is stands fits.1.is
      (fits.2 ∙ children_of graph number node fits.1.is)
      (λ next behind_entry. below_runs graph below (before ++ enters number ∷ []) (leaves number ∷ after) next orderly
      (is ∙ regrouped before (below_steps below) after number
      ∙ sym (append_assoc before (enters number ∷ []) (below_steps below ++ leaves number ∷ after)))
      fits.3 behind_entry)

  below_runs : (graph : Graph) (below : PlacedNodes) (before after : List Step) (standing : Composition) → IsOrderly graph (graph_steps graph)
      → graph_steps graph ≡ before ++ (below_steps below ++ after) → AllFit (anchor_of (graph_steps graph)) graph below → StandsBehind graph before standing
      → Composes graph before (below_steps below) (map (number_in_order (order_of graph)) (numbers_at below)) standing
      (behind graph (below_steps below) standing)
  below_runs graph none_placed before after standing orderly is fit stands = composes_none graph before standing stands
  below_runs graph (placed_and earlier last) before after standing orderly is fit stands =
      let place = number_in_order (order_of graph) in
      let turns = is ∙ ap (λ (rest : List Step). before ++ rest) (append_assoc (below_steps earlier) (placed_steps last) after) in
      let one = below_runs graph earlier before (placed_steps last ++ after) standing orderly turns fit.0 stands in
      let next = behind graph (below_steps earlier) standing in
      let two = tree_runs graph last (before ++ below_steps earlier) after next orderly
      (turns ∙ sym (append_assoc before (below_steps earlier) (placed_steps last ++ after))) fit.1 one.stands in
      subst (λ (met : List ℕ). Composes graph before (below_steps earlier ++ placed_steps last) met standing
      (behind graph (below_steps earlier ++ placed_steps last) standing))
      (sym (map-append place (numbers_at earlier) (number_at last ∷ [])))
      (subst (Composes graph before (below_steps earlier ++ placed_steps last) (map place (numbers_at earlier) ++ place (number_at last) ∷ []) standing)
      (sym (behind_both graph (below_steps earlier) (placed_steps last) standing))
      (composes_then graph before (below_steps earlier) (placed_steps last) (map place (numbers_at earlier)) (place (number_at last) ∷ []) standing next
      (behind graph (placed_steps last) next) one two))

-- ---- there are fewer shared nodes than events

filter_shorter : {X : Type 0} (test : X → Bool) (xs : List X) → length (filter test xs) ≤ length xs
filter_shorter test [] = omega arith
filter_shorter test (x ∷ xs) = grind (arith, nat_tests, length, cond, filter, filter_shorter test xs, test x)

firsts_shorter : (xs : List ℕ) → length (first_of_each xs) ≤ length xs
firsts_shorter [] = omega arith
firsts_shorter (x ∷ xs) = omega (arith, firsts_shorter xs, filter_shorter (λ other. not (other == x)) (first_of_each xs))

again_fewer : (graph : Graph) (walk part : List Step) → length (filter_map node_met_again part) ≤ length (flat_map (step_events graph walk) part)
again_fewer graph walk [] = omega arith
again_fewer graph walk (enters number ∷ part) = grind (arith, nat_tests, length-append, step_events, flat_map, again_fewer graph walk part, enters number)
again_fewer graph walk (leaves number ∷ part) = grind (arith, nat_tests, length-append, step_events, flat_map, again_fewer graph walk part, leaves number)
again_fewer graph walk (meets_again number ∷ part) = omega (arith, again_fewer graph walk part)

-- ---- the law

-- the events of a document, from its start to its end, compose its nodes in the order of the walk
pub document_composes : (graph : Graph) (count : ℕ) → IsWholeGraph graph → length (document_event_list graph) ≤ count → count ≤ largest_usize
    → (fold composed (nothing_composed count) (document_event_list graph)).nodes ≡ (in_order graph).nodes
document_composes graph count is few fits =
    let walked = walk_of graph is in
    let inside = flat_map (step_events graph (graph_steps graph)) (graph_steps graph) in
    let events : document_event_list graph ≡ document_start graph.start ∷ (inside ++ document_end graph.end_implicit ∷ []) =
    ap (λ (none : Bool). if none then [] else document_start graph.start ∷ (inside ++ document_end graph.end_implicit ∷ [])) is.has_nodes in
    let shared : length (shared_nodes (graph_steps graph)) < count =
    omega (
      arith,
      few,
      ap length events,
      length-append inside (document_end graph.end_implicit ∷ []),
      again_fewer graph (graph_steps graph) (graph_steps graph),
      firsts_shorter (filter_map node_met_again (graph_steps graph)),
    ) in
    let stands : StandsBehind graph [] (nothing_composed count) =
    record {
      counted = refl;
      carries = carries_none graph (replicate count 0) (omega (arith, shared, length-replicate {A = ℕ} count 0)) (omega (arith, shared, fits));
    } in
    let run = tree_runs graph walked.made.placed [] [] (nothing_composed count) walked.orderly
    (walked.made.adds ∙ sym (append-nil (placed_steps walked.made.placed)))
    walked.made.fits stands in
    ap (λ (all : List Event). (fold composed (nothing_composed count) all).nodes) events
    ∙ ap (λ (last : Composition). last.nodes) (fold-append composed (nothing_composed count) inside (document_end graph.end_implicit ∷ []))
    ∙ ap (λ (walk : List Step). (behind graph walk (nothing_composed count)).nodes) walked.made.adds
    ∙ run.nodes
    ∙ ap (λ (walk : List Step). nodes_in graph (order_of graph) (entered_nodes walk)) (sym walked.made.adds)
