-- The events of a document compose its nodes, in the order of its walk.
use Rattle.yaml_dump.proofs.Common.{nat_tests}
use Rattle.yaml_base.proofs.Common.{suc, ℕ, ◌+◌, unwrap_or, Some, length, List, [], map, ◌++◌, ◌∷◌, refl, ◌≡◌, length-append, append-nil, append_assoc}
use Rattle.yaml_base.proofs.Common.{ap, subst, sym, ◌∙◌, arith, map-append, flat_map, flat_map-append, filter_map-append, fold, Text, Graph, GraphNode, Held}
use Rattle.yaml_base.proofs.Common.{NumberPair, scalar_held, sequence_held, mapping_held, numbers_held, Step, enters, leaves, meets_again, anchor_of, children}
use Rattle.yaml_base.proofs.Common.{node_numbered, alias, opening_event_of, opening_events, closing_event_of, closing_events, step_events, PlacedNodes}
use Rattle.yaml_base.proofs.Common.{none_placed, placed_and, number_at, numbers_at}
use Rattle.std.specs.Prelude.{slice_set}
use Rattle.std.proofs.{lemmas.List.Sums.fold-append, Math.Seq.set-append_seam}
use Rattle.yaml_base.specs.graphs.Meetings.{graph_steps}
use Rattle.yaml_base.proofs.UnfoldSteps.{IsOrderly}
use Rattle.yaml_dump.specs.InOrder.{entered_nodes, number_in_order, renumber_children, node_by, numbered_node, nodes_in}
use Rattle.yaml_dump.specs.Composition.{Composition, Unended, adding, node_begun, collection_begun, ended, composed, pairs_of_list, held_with, node_at_place}
use Rattle.yaml_dump.specs.Composition.{number_of_anchor}
use Rattle.yaml_dump.proofs.CarrierLemmas.{Carries, carries_on, carries_entry, alias_carried, entry_place}

-- ---- the state of a composition

abbrev pub order_of : Graph → List ℕ
order_of graph = entered_nodes (graph_steps graph)

-- after some steps of the walk
pub record StandsBehind (graph : Graph) (before : List Step) (standing : Composition) : Type 0 where
  pub counted : length standing.nodes ≡ length (entered_nodes before)
  pub carries : Carries graph before standing.carriers

-- from one composition to another, over some steps of the walk that meet these nodes as children of the innermost collection
pub record Composes (graph : Graph) (before steps : List Step) (children : List ℕ) (standing next : Composition) : Type 0 where
  pub nodes : next.nodes ≡ standing.nodes ++ nodes_in graph (order_of graph) (entered_nodes steps)
  pub unended : next.unended ≡ adding children standing.unended
  pub stands : StandsBehind graph (before ++ steps) next

adding_none : (outer : List Unended) → adding [] outer ≡ outer
adding_none outer = grind (arith, nat_tests, children, append-nil)

adding_more : (first second : List ℕ) (outer : List Unended) → adding second (adding first outer) ≡ adding (first ++ second) outer
adding_more first second outer = grind (arith, nat_tests, children, append_assoc)

pub composes_none : (graph : Graph) (before : List Step) (standing : Composition) → StandsBehind graph before standing
    → Composes graph before [] [] standing standing
composes_none graph before standing stands = grind (arith, nat_tests, append-nil, adding_none)

pub composes_then : (graph : Graph) (before first second : List Step) (some others : List ℕ) (standing next last : Composition)
    → Composes graph before first some standing next → Composes graph (before ++ first) second others next last
    → Composes graph before (first ++ second) (some ++ others) standing last
composes_then graph before first second some others standing next last one two =
    record {
      nodes = two.nodes
          ∙ ap (λ (nodes : List GraphNode). nodes ++ nodes_in graph (order_of graph) (entered_nodes second)) one.nodes
          ∙ append_assoc standing.nodes (nodes_in graph (order_of graph) (entered_nodes first)) (nodes_in graph (order_of graph) (entered_nodes second))
          ∙ ap (λ (nodes : List GraphNode). standing.nodes ++ nodes)
          (sym
          (map-append (λ (number : ℕ). node_by (number_in_order (order_of graph)) (numbered_node graph number)) (entered_nodes first) (entered_nodes second))
          ∙ ap (nodes_in graph (order_of graph)) (sym (filter_map-append _ first second)));
      unended = two.unended ∙ ap (adding others) one.unended ∙ adding_more some others standing.unended;
      stands = subst (λ (so_far : List Step). StandsBehind graph so_far last) (append_assoc before first second) two.stands;
    }

-- ---- a node that is met again

pub alias_composes : (graph : Graph) (before after : List Step) (number : ℕ) (name : Text) (standing : Composition) → IsOrderly graph (graph_steps graph)
    → graph_steps graph ≡ before ++ meets_again number ∷ after → StandsBehind graph before standing
    → Composes graph before (meets_again number ∷ []) (number_in_order (order_of graph) number ∷ []) standing
    (composed standing (alias (unwrap_or (anchor_of (graph_steps graph) number) [])))
alias_composes graph before after number name standing orderly is stands =
    record {
      nodes = sym (append-nil standing.nodes);
      unended = ap (λ (child : ℕ). adding (child ∷ []) standing.unended) (alias_carried graph before after number standing.carriers orderly is stands.carries);
      stands = record {
        counted = stands.counted
            ∙ ap length (sym (append-nil (entered_nodes before)) ∙ sym (filter_map-append _ before (meets_again number ∷ [])));
        carries = carries_on graph before (meets_again number) standing.carriers (λ other. refl) stands.carries;
      };
    }

-- ---- a node that begins

-- a node's contents, without children
abbrev pub emptied : Held → Held
emptied (scalar_held value style) = scalar_held value style
emptied (sequence_held items style) = sequence_held [] style
emptied (mapping_held pairs style) = mapping_held [] style

paired_numbers : (place : ℕ → ℕ) (pairs : List NumberPair)
    → pairs_of_list (map place (flat_map (λ (pair : NumberPair). pair.key ∷ pair.value ∷ []) pairs))
    ≡ map (λ (pair : NumberPair). record { key = place pair.key; value = place pair.value }) pairs
paired_numbers place [] = refl
paired_numbers place (pair ∷ pairs) = grind (arith, nat_tests, paired_numbers place pairs, place pair.key, place pair.value)

-- with its children it is the node by other numbers
filled_by : (place : ℕ → ℕ) (held : Held) → held_with (map place (numbers_held held)) (emptied held) ≡ renumber_children place held
filled_by place (mapping_held pairs style) = ap (λ (numbers : List NumberPair). mapping_held numbers style) (paired_numbers place pairs)
filled_by place _ = refl

-- a node begins after the steps before
begun_stands : (graph : Graph) (before after : List Step) (number : ℕ) (tag : Text) (held : Held) (standing : Composition) → IsOrderly graph (graph_steps graph)
    → graph_steps graph ≡ before ++ enters number ∷ after → StandsBehind graph before standing
    → StandsBehind graph (before ++ enters number ∷ []) (node_begun (anchor_of (graph_steps graph) number) tag held standing)
begun_stands graph before after number tag held standing orderly is stands =
    let place : number_in_order (order_of graph) number ≡ suc (length standing.nodes) =
    entry_place graph before after number orderly is ∙ ap suc (sym stands.counted) in
    record {
      counted = length-append standing.nodes (record { tag = tag; held = held } ∷ [])
          ∙ ap (λ (n : ℕ). n + 1) stands.counted
          ∙ sym (length-append (entered_nodes before) (number ∷ []))
          ∙ ap length (sym (filter_map-append _ before (enters number ∷ [])));
      carries = subst (λ (child : ℕ). Carries graph (before ++ enters number ∷ [])
          (slice_set standing.carriers (number_of_anchor (anchor_of (graph_steps graph) number)) child)) place
          (carries_entry graph before number standing.carriers stands.carries);
    }

left_stands : (graph : Graph) (before : List Step) (number : ℕ) (standing next : Composition) → length next.nodes ≡ length standing.nodes
    → next.carriers ≡ standing.carriers
    → StandsBehind graph before standing → StandsBehind graph (before ++ leaves number ∷ []) next
left_stands graph before number standing next nodes carriers stands =
    record {
      counted = nodes ∙ stands.counted ∙ ap length (sym (append-nil (entered_nodes before)) ∙ sym (filter_map-append _ before (leaves number ∷ [])));
      carries = subst (Carries graph (before ++ leaves number ∷ [])) (sym carriers)
          (carries_on graph before (leaves number) standing.carriers (λ other. refl) stands.carries);
    }

-- the one node of an order
one_in_order : (graph : Graph) (number : ℕ) (node : GraphNode) → node_numbered graph number ≡ Some node
    → nodes_in graph (order_of graph) (number ∷ []) ≡ node_by (number_in_order (order_of graph)) node ∷ []
one_in_order graph number node is = grind (arith, nat_tests, node_by, number_in_order, order_of, unwrap_or, numbered_node)

-- ---- scalars

pub scalar_composes : (graph : Graph) (before after : List Step) (number : ℕ) (tag : Text) (held : Held) (standing : Composition)
    → IsOrderly graph (graph_steps graph)
    → graph_steps graph ≡ before ++ enters number ∷ (leaves number ∷ after) → StandsBehind graph before standing
    → node_numbered graph number ≡ Some (record { tag = tag; held = held }) → renumber_children (number_in_order (order_of graph)) held ≡ held
    → Composes graph before (enters number ∷ leaves number ∷ []) (number_in_order (order_of graph) number ∷ []) standing
    (node_begun (anchor_of (graph_steps graph) number) tag held standing)
scalar_composes graph before after number tag held standing orderly is stands node same =
    record {
      nodes = ap (λ (now : Held). standing.nodes ++ record { tag = tag; held = now } ∷ []) (sym same)
          ∙ ap (λ (nodes : List GraphNode). standing.nodes ++ nodes) (sym (one_in_order graph number (record { tag = tag; held = held }) node));
      unended = ap (λ (child : ℕ). adding (child ∷ []) standing.unended)
          (sym (entry_place graph before (leaves number ∷ after) number orderly is ∙ ap suc (sym stands.counted)));
      stands = subst (λ (so_far : List Step). StandsBehind graph so_far (node_begun (anchor_of (graph_steps graph) number) tag held standing))
          (append_assoc before (enters number ∷ []) (leaves number ∷ []))
          (left_stands graph (before ++ enters number ∷ []) number (node_begun (anchor_of (graph_steps graph) number) tag held standing)
          (node_begun (anchor_of (graph_steps graph) number) tag held standing) refl refl
          (begun_stands graph before (leaves number ∷ after) number tag held standing orderly is stands));
    }

-- ---- collections

-- the node at the seam of two lists
at_seam : (xs : List GraphNode) (y : GraphNode) (ys : List GraphNode) → node_at_place (xs ++ y ∷ ys) (length xs) ≡ y
at_seam [] y ys = refl
at_seam (x ∷ xs) y ys = at_seam xs y ys

-- the collection that was opened after some nodes ends
ended_so : (first : List GraphNode) (tag : Text) (held : Held) (below : List GraphNode) (children : List ℕ) (outer : List Unended) (next : Composition)
    → next.nodes ≡ (first ++ record { tag = tag; held = held } ∷ []) ++ below
    → next.unended ≡ record { place = length first; children = children } ∷ outer
    → ended next.unended next
    ≡ record { nodes = first ++ record { tag = tag; held = held_with children held } ∷ below; unended = outer; carriers = next.carriers }
ended_so first tag held below children outer next nodes unended =
    grind (arith, nat_tests, append_assoc, ended, slice_set, length, node_at_place, held_with, at_seam, set-append_seam)

-- after a collection that was opened, and its children
pub collection_composes : (graph : Graph) (before below after : List Step) (number : ℕ) (tag : Text) (held : Held) (standing next : Composition)
    → IsOrderly graph (graph_steps graph) → graph_steps graph ≡ before ++ enters number ∷ (below ++ leaves number ∷ after) → StandsBehind graph before standing
    → node_numbered graph number ≡ Some (record { tag = tag; held = held })
    → Composes graph (before ++ enters number ∷ []) below (map (number_in_order (order_of graph)) (numbers_held held))
    (collection_begun (anchor_of (graph_steps graph) number) tag (emptied held) standing) next
    → Composes graph before (enters number ∷ (below ++ leaves number ∷ [])) (number_in_order (order_of graph) number ∷ []) standing (ended next.unended next)
collection_composes graph before below after number tag held standing next orderly is stands node inner =
    let place = number_in_order (order_of graph) in
    let inside = nodes_in graph (order_of graph) (entered_nodes below) in
    let so = ended_so standing.nodes tag (emptied held) inside (map place (numbers_held held)) (adding (suc (length standing.nodes) ∷ []) standing.unended) next
    inner.nodes inner.unended in
    let whole : GraphNode = record { tag = tag; held = held_with (map place (numbers_held held)) (emptied held) } in
    let last : Composition =
    record { nodes = standing.nodes ++ whole ∷ inside; unended = adding (suc (length standing.nodes) ∷ []) standing.unended; carriers = next.carriers } in
    let count : length last.nodes ≡ length next.nodes =
    omega (
      arith,
      length-append standing.nodes (whole ∷ inside),
      ap length inner.nodes,
      length-append (standing.nodes ++ record { tag = tag; held = emptied held } ∷ []) inside,
      length-append standing.nodes (record { tag = tag; held = emptied held } ∷ []),
    ) in
    subst (Composes graph before (enters number ∷ (below ++ leaves number ∷ [])) (place number ∷ []) standing) (sym so)
    (record {
      nodes = ap (λ (now : Held). standing.nodes ++ record { tag = tag; held = now } ∷ inside) (filled_by place held)
          ∙ ap (λ (nodes : List GraphNode). standing.nodes ++ (nodes ++ inside)) (sym (one_in_order graph number (record { tag = tag; held = held }) node))
          ∙ ap (λ (order : List ℕ). standing.nodes ++ nodes_in graph (order_of graph) (number ∷ order))
          (sym (append-nil (entered_nodes below)) ∙ sym (filter_map-append _ below (leaves number ∷ [])));
      unended = ap (λ (child : ℕ). adding (child ∷ []) standing.unended)
          (sym (entry_place graph before (below ++ leaves number ∷ after) number orderly is ∙ ap suc (sym stands.counted)));
      stands = subst (λ (so_far : List Step). StandsBehind graph so_far last)
          (append_assoc (before ++ enters number ∷ []) below (leaves number ∷ []) ∙ append_assoc before (enters number ∷ []) (below ++ leaves number ∷ []))
          (left_stands graph ((before ++ enters number ∷ []) ++ below) number next last count refl inner.stands);
    })

-- opening a collection meets the conditions that beginning a node does
pub opened_stands : (graph : Graph) (before after : List Step) (number : ℕ) (tag : Text) (held : Held) (standing : Composition)
    → IsOrderly graph (graph_steps graph)
    → graph_steps graph ≡ before ++ enters number ∷ after → StandsBehind graph before standing
    → StandsBehind graph (before ++ enters number ∷ []) (collection_begun (anchor_of (graph_steps graph) number) tag held standing)
opened_stands graph before after number tag held standing orderly is stands =
    let begins = begun_stands graph before after number tag held standing orderly is stands in
    record { counted = begins.counted; carries = begins.carries }

-- ---- the events of a tree

-- the composition after the events of some steps
abbrev pub behind : Graph → List Step → Composition → Composition
behind graph part standing = fold composed standing (flat_map (step_events graph (graph_steps graph)) part)

pub behind_both : (graph : Graph) (first second : List Step) (standing : Composition)
    → behind graph (first ++ second) standing ≡ behind graph second (behind graph first standing)
behind_both graph first second standing = grind (arith, nat_tests, fold, composed, flat_map-append, step_events, graph_steps, fold-append, flat_map)

pub behind_entry : (graph : Graph) (number : ℕ) (node : GraphNode) (part : List Step) (standing : Composition) → node_numbered graph number ≡ Some node
    → behind graph (enters number ∷ part) standing
    ≡ behind graph part (composed standing (opening_event_of (anchor_of (graph_steps graph) number) node.tag node.held))
behind_entry graph number node part standing is = grind (arith, nat_tests, fold, composed, opening_events, anchor_of, graph_steps, flat_map, step_events)

pub behind_leave : (graph : Graph) (number : ℕ) (node : GraphNode) (standing : Composition) → node_numbered graph number ≡ Some node
    → behind graph (leaves number ∷ []) standing ≡ fold composed standing (closing_event_of node.held)
behind_leave graph number node standing is = grind (arith, nat_tests, fold, composed, closing_events, append-nil, closing_event_of)

pub none_below : (below : PlacedNodes) → numbers_at below ≡ [] → below ≡ none_placed
none_below none_placed is = refl
none_below (placed_and before last) is = absurd (omega (arith, ap length is, length-append (numbers_at before) (number_at last ∷ [])))
