-- The graph in the order of its walk is a document with the same events.
use Rattle.yaml_dump.proofs.Common.{nat_tests}
use Rattle.yaml_base.proofs.Common.{suc, zero, ℕ, ◌==◌, Contains, unwrap_or, Option, None, Some, nat_le, length, Bool, false, true, ◌||◌, ◌&&◌, List, [], map}
use Rattle.yaml_base.proofs.Common.{◌++◌, ◌∷◌, refl, ◌≡◌, le-leb, inl, inr, ap, sym, if◌then◌else◌, ◌∙◌, arith, length-map, Contains-append_right, flat_map}
use Rattle.yaml_base.proofs.Common.{list_all, Graph, GraphNode, children, is_whole, Step, enters, leaves, meets_again, Event, document_start, document_end}
use Rattle.yaml_base.proofs.Common.{alias, step_events, document_event_list, IsReached, first_reached, child_reached, IsWholeGraph, and_from, numbers_held}
use Rattle.yaml_base.proofs.Common.{node_numbered, opening_events, closing_events, eq-eqb, ne_eqb, or-true}
use Rattle.yaml_base.specs.graphs.Meetings.{graph_steps}
use Rattle.yaml_base.proofs.{SharedNodes.has, DocumentsUnfold.some_nodes}
use Rattle.yaml_base.proofs.SameWalks.{node_of_step, AllReached, renumbered, same_walks, anchors_alike}
use Rattle.yaml_dump.specs.InOrder.{entered_nodes, number_in_order, node_by, numbered_node, in_order}
use Rattle.yaml_dump.proofs.InOrderLemmas.{HasWalk, walk_of, entered_has, place_within, numbers_by, opening_by, closing_by, node_placed_at, isomorphic_in_order}

-- ---- each number names a node

-- a test that each element meets
all_meet : {X : Type 0} (test : X → Bool) (xs : List X) → ((x : X) → Contains xs x → test x ≡ true) → list_all test xs ≡ true
all_meet test [] each = refl
all_meet test (x ∷ xs) each =
    and_from (test x) (list_all test xs) (each x (0, omega arith, refl))
    (all_meet test xs (λ y within. each y (Contains-append_right (x ∷ []) xs y within)))

all_mapped : {X Y : Type 0} (f : X → Y) (test : Y → Bool) (xs : List X) → ((x : X) → Contains xs x → test (f x) ≡ true) → list_all test (map f xs) ≡ true
all_mapped f test [] each = refl
all_mapped f test (x ∷ xs) each =
    and_from (test (f x)) (list_all test (map f xs)) (each x (0, omega arith, refl))
    (all_mapped f test xs (λ y within. each y (Contains-append_right (x ∷ []) xs y within)))

-- a node of an order was entered
entered_of : (walk : List Step) (number : ℕ) → Contains (entered_nodes walk) number → has number (entered_nodes walk) ≡ true
entered_of walk number within = contained_has (entered_nodes walk) number within
  where
    contained_has : (xs : List ℕ) (number : ℕ) → Contains xs number → has number xs ≡ true
    contained_has [] number (k, within, is) = absurd (omega (arith, within))
    contained_has (x ∷ xs) number (zero, within, is) = ap (λ (b : Bool). b || has number xs) (eq-eqb x number is)
    contained_has (x ∷ xs) number (suc k, within, is) = grind (arith, nat_tests, or-true, contained_has xs number (k, omega (arith, within), is))

names_one : (order : List ℕ) (count number : ℕ) → count ≡ length order → has number order ≡ true
    → (nat_le 1 (number_in_order order number) && nat_le (number_in_order order number) count) ≡ true
names_one order count number is there = grind (arith, nat_tests, and_from, nat_le, number_in_order, le-leb, place_within)

in_order_whole : (graph : Graph) → HasWalk graph → is_whole (in_order graph) ≡ true
in_order_whole graph walked =
    let order = entered_nodes (graph_steps graph) in
    let count : length (in_order graph).nodes
    ≡ length order = length-map order (λ (number : ℕ). node_by (number_in_order order) (numbered_node graph number)) in
    all_mapped (λ (number : ℕ). node_by (number_in_order order) (numbered_node graph number))
    (λ node. list_all (λ number. nat_le 1 number && nat_le number (length (in_order graph).nodes)) (numbers_held node.held)) order
    (λ number within.
    let reached = walked.orderly.reached number (sym (entered_has number (graph_steps graph)) ∙ entered_of (graph_steps graph) number within) in
    let has_node = walked.node number reached in
    let held : numbers_held (numbered_node graph number).held ≡ children graph number =
    ap (λ (found : Option GraphNode). numbers_held (unwrap_or found (numbered_node graph 0)).held) has_node.is
    ∙ ap (λ (found : Option GraphNode). elim found as (λ _. List ℕ) [ None ↦ [] | Some node ↦ numbers_held node.held ]) (sym has_node.is) in
    ap (list_all (λ other. nat_le 1 other && nat_le other (length (in_order graph).nodes)))
    (numbers_by (number_in_order order) (numbered_node graph number).held ∙ ap (map (number_in_order order)) held)
    ∙ all_mapped (number_in_order order) (λ other. nat_le 1 other && nat_le other (length (in_order graph).nodes)) (children graph number)
    (λ child inside. names_one order (length (in_order graph).nodes) child count (walked.reached child (child_reached reached inside))))

some_placed : (xs : List ℕ) (number : ℕ) → has number xs ≡ true → (length xs == 0) ≡ false
some_placed [] number is = cc
some_placed (x ∷ xs) number is = ne_eqb (suc (length xs)) 0 (λ same. omega (arith, same))

pub in_order_document : (graph : Graph) → HasWalk graph → IsWholeGraph (in_order graph)
in_order_document graph walked =
    let order = entered_nodes (graph_steps graph) in
    record {
      whole = in_order_whole graph walked;
      has_nodes =
          ap (λ (count : ℕ). count == 0) (length-map order (λ (number : ℕ). node_by (number_in_order order) (numbered_node graph number)))
          ∙ some_placed order 1 (walked.reached 1 first_reached);
    }

-- ---- the events

begins_same : (graph : Graph) (walked : HasWalk graph) (number : ℕ) (anchor other : Option _) → IsReached graph number → anchor ≡ other
    → opening_events anchor (node_numbered (in_order graph) (number_in_order (entered_nodes (graph_steps graph)) number))
    ≡ opening_events other (node_numbered graph number)
begins_same graph walked number anchor other reached is =
    let order = entered_nodes (graph_steps graph) in
    let has_node = walked.node number reached in
    ap (opening_events anchor) (node_placed_at graph number has_node.node (walked.reached number reached) has_node.is)
    ∙ ap (λ (event : Event). event ∷ []) (opening_by (number_in_order order) anchor has_node.node.tag has_node.node.held)
    ∙ ap (opening_events anchor) (sym has_node.is)
    ∙ ap (λ (a : Option _). opening_events a (node_numbered graph number)) is

ends_same : (graph : Graph) (walked : HasWalk graph) (number : ℕ) → IsReached graph number
    → closing_events (node_numbered (in_order graph) (number_in_order (entered_nodes (graph_steps graph)) number)) ≡ closing_events (node_numbered graph number)
ends_same graph walked number reached =
    let order = entered_nodes (graph_steps graph) in
    let has_node = walked.node number reached in
    ap closing_events (node_placed_at graph number has_node.node (walked.reached number reached) has_node.is)
    ∙ closing_by (number_in_order order) has_node.node.held
    ∙ ap closing_events (sym has_node.is)

step_same : (graph : Graph) (walked : HasWalk graph) (step : Step) → AllReached graph (graph_steps graph) → IsReached graph (node_of_step step)
    → step_events (in_order graph) (map (renumbered (number_in_order (entered_nodes (graph_steps graph)))) (graph_steps graph))
    (renumbered (number_in_order (entered_nodes (graph_steps graph))) step)
    ≡ step_events graph (graph_steps graph) step
unfolding isomorphic_in_order
step_same graph walked (enters number) all reached =
    begins_same graph walked number _ _ reached (anchors_alike graph (in_order graph) (isomorphic_in_order graph walked) (graph_steps graph) number all reached)
step_same graph walked (leaves number) all reached = ends_same graph walked number reached
step_same graph walked (meets_again number) all reached =
    ap (λ (anchor : Option _). alias (unwrap_or anchor []) ∷ [])
    (anchors_alike graph (in_order graph) (isomorphic_in_order graph walked) (graph_steps graph) number all reached)

steps_same : (graph : Graph) (walked : HasWalk graph) (part : List Step) → AllReached graph (graph_steps graph) → AllReached graph part
    → flat_map (step_events (in_order graph) (map (renumbered (number_in_order (entered_nodes (graph_steps graph)))) (graph_steps graph)))
    (map (renumbered (number_in_order (entered_nodes (graph_steps graph)))) part)
    ≡ flat_map (step_events graph (graph_steps graph)) part
steps_same graph walked [] all reached = refl
steps_same graph walked (step ∷ part) all reached =
    let place = number_in_order (entered_nodes (graph_steps graph)) in
    ap (λ (events : List Event). events
    ++ flat_map (step_events (in_order graph) (map (renumbered place) (graph_steps graph))) (map (renumbered place) part))
    (step_same graph walked step all (reached step (inl refl)))
    ∙ ap (λ (events : List Event). step_events graph (graph_steps graph) step ++ events)
    (steps_same graph walked part all (λ other within. reached other (inr within)))

pub in_order_events : (graph : Graph) → IsWholeGraph graph → document_event_list (in_order graph) ≡ document_event_list graph
unfolding isomorphic_in_order
in_order_events graph is =
    let walked = walk_of graph is in
    let also = in_order_document graph walked in
    let walks = same_walks graph (in_order graph) (isomorphic_in_order graph walked) is.whole also.whole (some_nodes (length graph.nodes) is.has_nodes)
    (some_nodes (length (in_order graph).nodes) also.has_nodes) in
    let inside : flat_map (step_events (in_order graph) (graph_steps (in_order graph))) (graph_steps (in_order graph))
    ≡ flat_map (step_events graph (graph_steps graph)) (graph_steps graph) =
    ap (λ (walk : List Step). flat_map (step_events (in_order graph) walk) walk) walks.same
    ∙ steps_same graph walked (graph_steps graph) walks.reached walks.reached in
    ap (λ (none : Bool). if none then [] else
    document_start graph.start ∷ (flat_map (step_events (in_order graph) (graph_steps (in_order graph)))
    (graph_steps (in_order graph)) ++ document_end graph.end_implicit ∷ []))
    also.has_nodes
    ∙ ap (λ (events : List Event). document_start graph.start ∷ (events ++ document_end graph.end_implicit ∷ [])) inside
    ∙ sym (ap (λ (none : Bool). if none then [] else
    document_start graph.start ∷ (flat_map (step_events graph (graph_steps graph)) (graph_steps graph) ++ document_end graph.end_implicit ∷ [])) is.has_nodes)
