-- The tree of events of a walk's tree: its events are those of the walk's steps, and its shape fits.
use Rattle.yaml_base.proofs.Common.{suc, zero, ℕ, ◌+◌, option_map, bytes_eq, Option, None, Some, length, Bool, false, true, List, [], ◌++◌, ◌∷◌, refl, ◌≡◌}
use Rattle.yaml_base.proofs.Common.{length-append, append-nil, append_assoc, ap, sym, ◌∙◌, arith, flat_map-append, flat_map, Text, Event, alias, sequence_end}
use Rattle.yaml_base.proofs.Common.{mapping_end, Node, alias_node, scalar_node, Nodes, sequence_node, Pairs, mapping_node, no_nodes, nodes_and, no_pairs}
use Rattle.yaml_base.proofs.Common.{pairs_and, node_events, nodes_events, pairs_events, NumberPair, Held, scalar_held, sequence_held, mapping_held, GraphNode}
use Rattle.yaml_base.proofs.Common.{Graph, node_numbered, numbers_held, numbers_in, children, Step, leaves, anchor_of, string_tag, sequence_tag, mapping_tag}
use Rattle.yaml_base.proofs.Common.{opening_event_of, opening_events, closing_event_of, closing_events, step_events, node_shape_of, nodes_shapes, pairs_shapes}
use Rattle.yaml_base.proofs.Common.{Placed, alias_placed, PlacedNodes, node_placed, none_placed, placed_and, numbers_at, label_of, HasShape, HaveShapes}
use Rattle.yaml_base.proofs.{Common.nat_tests, UnfoldTrees.placed_steps, UnfoldTrees.below_steps, UnfoldTrees.Fits, UnfoldTrees.AllFit}

-- ---- the tree of events

-- a node of these children, as items or as pairs
abbrev pub node_holding : Option Text → Text → Held → Nodes → Pairs → Node
node_holding anchor tag (scalar_held value style) items pairs =
    let implicit = bytes_eq tag string_tag in
    scalar_node (record { anchor = anchor; tag = Some tag; value = value; plain_implicit = implicit; quoted_implicit = implicit; style = style })
node_holding anchor tag (sequence_held numbers style) items pairs =
    sequence_node (record { anchor = anchor; tag = Some tag; implicit = bytes_eq tag sequence_tag; style = style }) items
node_holding anchor tag (mapping_held numbers style) items pairs =
    mapping_node (record { anchor = anchor; tag = Some tag; implicit = bytes_eq tag mapping_tag; style = style }) pairs

abbrev pub node_with : Option Text → Option GraphNode → Nodes → Pairs → Node
node_with anchor None items pairs = alias_node []
node_with anchor (Some node) items pairs = node_holding anchor node.tag node.held items pairs

abbrev mutual
  pub node_at : Graph → Placed → Node
  node_at graph (alias_placed name number) = alias_node name
  node_at graph (node_placed anchor number below) = node_with anchor (node_numbered graph number) (items_at graph below) (pairs_at graph below)

  pub items_at : Graph → PlacedNodes → Nodes
  items_at graph none_placed = no_nodes
  items_at graph (placed_and before last) = nodes_and (items_at graph before) (node_at graph last)

  pub pairs_at : Graph → PlacedNodes → Pairs
  pairs_at graph none_placed = no_pairs
  pairs_at graph (placed_and none_placed last) = no_pairs
  pairs_at graph (placed_and (placed_and before key) value) = pairs_and (pairs_at graph before) (node_at graph key) (node_at graph value)

-- ---- an even number of occurrences makes pairs

abbrev are_pairs : PlacedNodes → Bool
are_pairs none_placed = true
are_pairs (placed_and none_placed last) = false
are_pairs (placed_and (placed_and before key) value) = are_pairs before

even_pairs : (below : PlacedNodes) (half : ℕ) → length (numbers_at below) ≡ half + half → are_pairs below ≡ true
even_pairs none_placed half even = refl
even_pairs (placed_and none_placed last) half even = absurd (omega (arith, even))
even_pairs (placed_and (placed_and before key) value) zero even =
    absurd (omega (arith, even, length-append (numbers_at (placed_and before key)) (numbers_at (placed_and none_placed value))))
even_pairs (placed_and (placed_and before key) value) (suc half) even = grind (arith, nat_tests, length-append, even_pairs before half)

two_each : (pairs : List NumberPair) → length (flat_map (λ (pair : NumberPair). pair.key ∷ pair.value ∷ []) pairs) ≡ length pairs + length pairs
two_each [] = omega arith
two_each (pair ∷ pairs) = omega (arith, two_each pairs)

-- the trees below a mapping's node
held_pairs : (below : PlacedNodes) (pairs : List NumberPair) → numbers_at below ≡ flat_map (λ (pair : NumberPair). pair.key ∷ pair.value ∷ []) pairs
    → are_pairs below ≡ true
held_pairs below pairs is = even_pairs below (length pairs) (ap length is ∙ two_each pairs)

-- a scalar has nothing below it
none_held : (below : PlacedNodes) → numbers_at below ≡ [] → below ≡ none_placed
none_held none_placed is = refl
none_held (placed_and before last) is = absurd (omega (arith, ap length is, length-append (numbers_at before) (numbers_at (placed_and none_placed last))))

-- ---- its events

-- of a node whose children have these
holding_events : (anchor : Option Text) (tag : Text) (held : Held) (graph : Graph) (below : PlacedNodes) (inside : List Event)
    → numbers_at below ≡ numbers_held held
    → nodes_events (items_at graph below) ≡ inside → (are_pairs below ≡ true → pairs_events (pairs_at graph below) ≡ inside)
    → (below ≡ none_placed → inside ≡ [])
    → node_events (node_holding anchor tag held (items_at graph below)
    (pairs_at graph below)) ≡ opening_event_of anchor tag held ∷ (inside ++ closing_event_of held)
holding_events anchor tag (scalar_held value style) graph below inside is items pairs none =
    ap (λ (events : List Event). opening_event_of anchor tag (scalar_held value style) ∷ events) (sym (none (none_held below is)) ∙ sym (append-nil inside))
holding_events anchor tag (sequence_held numbers style) graph below inside is items pairs none =
    ap (λ (events : List Event). opening_event_of anchor tag (sequence_held numbers style) ∷ (events ++ sequence_end ∷ [])) items
holding_events anchor tag (mapping_held numbers style) graph below inside is items pairs none =
    ap (λ (events : List Event). opening_event_of anchor tag (mapping_held numbers style) ∷ (events ++ mapping_end ∷ [])) (pairs (held_pairs below numbers is))

with_events : (anchor : Option Text) (graph : Graph) (number : ℕ) (found : Option GraphNode) (node : GraphNode) (below : PlacedNodes) (inside : List Event)
    → found ≡ Some node
    → numbers_at below ≡ numbers_in found → nodes_events (items_at graph below) ≡ inside
    → (are_pairs below ≡ true → pairs_events (pairs_at graph below) ≡ inside) → (below ≡ none_placed → inside ≡ [])
    → node_events (node_with anchor found (items_at graph below) (pairs_at graph below)) ≡ opening_events anchor found ++ (inside ++ closing_events found)
with_events anchor graph number None node below inside has is items pairs none = cc
with_events anchor graph number
    (Some other) node below inside has is items pairs none = holding_events anchor other.tag other.held graph below inside is items pairs none

-- the events of the steps below a node, and of its end
end_events : (of : Step → List Event) (below : List Step) (end : Step) → flat_map of (below ++ end ∷ []) ≡ flat_map of below ++ of end
end_events of below end = flat_map-append of below (end ∷ []) ∙ ap (λ (events : List Event). flat_map of below ++ events) (append-nil (of end))

no_steps : (of : Step → List Event) (below : PlacedNodes) → below ≡ none_placed → flat_map of (below_steps below) ≡ []
no_steps of below is = ap (λ (all : PlacedNodes). flat_map of (below_steps all)) is

mutual
  pub node_at_events : (graph : Graph) (walk : List Step) (placed : Placed) → Fits (anchor_of walk) graph placed
      → node_events (node_at graph placed) ≡ flat_map (step_events graph walk) (placed_steps placed)
  node_at_events graph walk (alias_placed name number) fits = ap (λ (stated : Text). alias stated ∷ []) fits
  node_at_events graph walk (node_placed anchor number below) fits =
      with_events anchor graph number (node_numbered graph number) fits.1.node below (flat_map (step_events graph walk) (below_steps below)) fits.1.is fits.2
      (items_at_events graph walk below fits.3) (pairs_at_events graph walk below fits.3) (no_steps (step_events graph walk) below)
      ∙ ap (λ (stated : Option Text). opening_events stated (node_numbered graph number)
      ++ (flat_map (step_events graph walk) (below_steps below) ++ closing_events (node_numbered graph number))) fits.0
      ∙ ap (λ (events : List Event). opening_events (anchor_of walk number) (node_numbered graph number) ++ events)
      (sym (end_events (step_events graph walk) (below_steps below) (leaves number)))

  items_at_events : (graph : Graph) (walk : List Step) (below : PlacedNodes) → AllFit (anchor_of walk) graph below
      → nodes_events (items_at graph below) ≡ flat_map (step_events graph walk) (below_steps below)
  items_at_events graph walk none_placed fit = refl
  items_at_events graph walk (placed_and before last) fit =
      ap (λ (events : List Event). events ++ node_events (node_at graph last)) (items_at_events graph walk before fit.0)
      ∙ ap (λ (events : List Event). flat_map (step_events graph walk) (below_steps before) ++ events) (node_at_events graph walk last fit.1)
      ∙ sym (flat_map-append (step_events graph walk) (below_steps before) (placed_steps last))

  pairs_at_events : (graph : Graph) (walk : List Step) (below : PlacedNodes) → AllFit (anchor_of walk) graph below → are_pairs below ≡ true
      → pairs_events (pairs_at graph below) ≡ flat_map (step_events graph walk) (below_steps below)
  pairs_at_events graph walk none_placed fit even = refl
  pairs_at_events graph walk (placed_and none_placed last) fit even = cc
  pairs_at_events graph walk (placed_and (placed_and before key) value) fit even =
      let each = node_at_events graph walk key fit.0.1 in
      let one = node_at_events graph walk value fit.1 in
      let other = pairs_at_events graph walk before fit.0.0 even in
      grind (arith, append_assoc, flat_map-append, each, one, other)

-- ---- its shape

holding_shape : (anchor : Option Text) (tag : Text) (held : Held) (node : GraphNode) (graph : Graph) (number : ℕ) (below : PlacedNodes)
    → node_numbered graph number ≡ Some (record { tag = tag; held = held })
    → numbers_at below ≡ children graph number → numbers_at below ≡ numbers_held held → HaveShapes true graph below (nodes_shapes (items_at graph below))
    → (are_pairs below ≡ true → HaveShapes true graph below (pairs_shapes (pairs_at graph below)))
    → HasShape true graph (node_placed anchor number below) (node_shape_of (node_holding anchor tag held (items_at graph below) (pairs_at graph below)))
holding_shape anchor tag (scalar_held value style) node graph number below is all held items pairs = grind (arith, none_held)
holding_shape anchor tag (sequence_held numbers style) node graph number below is all held items pairs = (refl, ap (option_map (label_of true)) is, all, items)
holding_shape anchor tag (mapping_held numbers style) node graph number below is all held items pairs =
    (refl, ap (option_map (label_of true)) is, all, pairs (held_pairs below numbers held))

with_shape : (anchor : Option Text) (graph : Graph) (number : ℕ) (found : Option GraphNode) (node : GraphNode) (below : PlacedNodes)
    → node_numbered graph number ≡ found → found ≡ Some node → numbers_at below ≡ children graph number
    → numbers_at below ≡ numbers_in found → HaveShapes true graph below (nodes_shapes (items_at graph below))
    → (are_pairs below ≡ true → HaveShapes true graph below (pairs_shapes (pairs_at graph below)))
    → HasShape true graph (node_placed anchor number below) (node_shape_of (node_with anchor found (items_at graph below) (pairs_at graph below)))
with_shape anchor graph number None node below is has all held items pairs = cc
with_shape anchor graph number (Some other) node below is has all held items pairs = holding_shape anchor other.tag other.held other graph number below is all
    held items pairs

mutual
  pub node_at_shape : (named : ℕ → Option Text) (graph : Graph) (placed : Placed) → Fits named graph placed
      → HasShape true graph placed (node_shape_of (node_at graph placed))
  node_at_shape named graph (alias_placed name number) fits = refl
  node_at_shape named graph (node_placed anchor number below) fits =
      with_shape _ graph _ _ _ below refl fits.1.is fits.2 fits.2 (items_at_shapes named graph below fits.3) (pairs_at_shapes named graph below fits.3)

  items_at_shapes : (named : ℕ → Option Text) (graph : Graph) (below : PlacedNodes) → AllFit named graph below
      → HaveShapes true graph below (nodes_shapes (items_at graph below))
  items_at_shapes named graph none_placed fit = tt
  items_at_shapes named graph (placed_and before last) fit = (items_at_shapes named graph before fit.0, node_at_shape named graph last fit.1)

  pairs_at_shapes : (named : ℕ → Option Text) (graph : Graph) (below : PlacedNodes) → AllFit named graph below → are_pairs below ≡ true
      → HaveShapes true graph below (pairs_shapes (pairs_at graph below))
  pairs_at_shapes named graph none_placed fit even = tt
  pairs_at_shapes named graph (placed_and none_placed last) fit even = cc
  pairs_at_shapes named graph (placed_and (placed_and before key) value) fit even =
      ((pairs_at_shapes named graph before fit.0.0 even, node_at_shape named graph key fit.0.1), node_at_shape named graph value fit.1)
