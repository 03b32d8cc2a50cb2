-- Conditions that each event of a tree meets.
use Rattle.yaml_emitter.proofs.Common.{Bool, true, [], ◌++◌, ◌∷◌, ◌≡◌, and_parts, list_all, all_of_both, Event, alias, scalar, sequence_start, sequence_end}
use Rattle.yaml_emitter.proofs.Common.{mapping_start, mapping_end, Node, alias_node, scalar_node, Nodes, sequence_node, Pairs, mapping_node, no_nodes}
use Rattle.yaml_emitter.proofs.Common.{nodes_and, no_pairs, pairs_and, node_events}
use Rattle.yaml_base.proofs.Common.{nodes_events, pairs_events}

abbrev mutual
  pub EachNode : Node → (Event → Type 0) → Type 0
  EachNode (alias_node name) P = P (alias name)
  EachNode (scalar_node content) P = P (scalar content)
  EachNode (sequence_node start items) P = P (sequence_start start) × EachItem items P
  EachNode (mapping_node start pairs) P = P (mapping_start start) × EachPair pairs P

  pub EachItem : Nodes → (Event → Type 0) → Type 0
  EachItem no_nodes P = Unit {0}
  EachItem (nodes_and items last) P = EachItem items P × EachNode last P

  pub EachPair : Pairs → (Event → Type 0) → Type 0
  EachPair no_pairs P = Unit {0}
  EachPair (pairs_and pairs key value) P = EachPair pairs P × EachNode key P × EachNode value P

mutual
  pub each_node : (n : Node) (P : Event → Type 0) (q : Event → Bool) → ((event : Event) → q event ≡ true → P event)
      → list_all q (node_events n) ≡ true → EachNode n P
  each_node (alias_node name) P q f h = f (alias name) (and_parts _ _ h).0
  each_node (scalar_node content) P q f h = f (scalar content) (and_parts _ _ h).0
  each_node (sequence_node start items) P q f h =
      let parts : (q (sequence_start start) ≡ true) × (list_all q (nodes_events items ++ sequence_end ∷ []) ≡ true) = and_parts _ _ h in
      (f (sequence_start start) parts.0, each_item items P q f (all_of_both q (nodes_events items) (sequence_end ∷ []) parts.1).0)
  each_node (mapping_node start pairs) P q f h =
      let parts : (q (mapping_start start) ≡ true) × (list_all q (pairs_events pairs ++ mapping_end ∷ []) ≡ true) = and_parts _ _ h in
      (f (mapping_start start) parts.0, each_pair pairs P q f (all_of_both q (pairs_events pairs) (mapping_end ∷ []) parts.1).0)

  each_item : (items : Nodes) (P : Event → Type 0) (q : Event → Bool) → ((event : Event) → q event ≡ true → P event)
      → list_all q (nodes_events items) ≡ true → EachItem items P
  each_item no_nodes P q f h = tt
  each_item (nodes_and items last) P q f h =
      let parts = all_of_both q (nodes_events items) (node_events last) h in
      (each_item items P q f parts.0, each_node last P q f parts.1)

  each_pair : (pairs : Pairs) (P : Event → Type 0) (q : Event → Bool) → ((event : Event) → q event ≡ true → P event)
      → list_all q (pairs_events pairs) ≡ true → EachPair pairs P
  each_pair no_pairs P q f h = tt
  each_pair (pairs_and pairs key value) P q f h =
      let parts = all_of_both q (pairs_events pairs) (node_events key ++ node_events value) h in
      let both = all_of_both q (node_events key) (node_events value) parts.1 in
      (each_pair pairs P q f parts.0, each_node key P q f both.0, each_node value P q f both.1)
