-- Each node of the layout in flow takes the reader of flow collections to its place with its tree.
use Rattle.yaml_base.proofs.Common.{arith, ℕ, Option, Some, codes, Bool, false, true, ◌&&◌, List, [], ◌++◌, ◌∷◌, refl, ◌≡◌, append-nil, append_assoc, ap, subst}
use Rattle.yaml_base.proofs.Common.{sym, ◌∙◌, Text, Cursor, Rendered, space_if, indicator, TagDirective, Node, alias_node, scalar_node, Nodes}
use Rattle.yaml_base.proofs.Common.{sequence_node, Pairs, mapping_node, no_nodes, nodes_and, no_pairs, pairs_and, entry_place, Role, as_item}
use Rattle.yaml_base.proofs.Common.{as_key, as_value, is_key, deeper, has_no_nodes, has_no_pairs, is_simple, flow_break, key_indicator, render_flow_place}
use Rattle.yaml_base.proofs.Common.{render_place, Effective, Tree, TreePairs, no_trees, no_tree_pairs, tree_pairs_and, sequence_tree, mapping_tree, no_key}
use Rattle.yaml_base.proofs.Common.{in_sequence, in_mapping, Rules, and-false}
use Rattle.yaml_base.proofs.stream_flow.{StreamFlowScalars.rules_of, StreamSays.class_fixed}
use Rattle.yaml_base.proofs.stream_flow.StreamFlowTakes.{FlowNode, sequence_ends, mapping_ends}
use Rattle.yaml_base.proofs.stream_flow.StreamFlowKinds.{KeysFit, NodeTakes, alias_step, scalar_step, ItemsTake, PairsTake, empty_step, collection_step}
use Rattle.yaml_base.proofs.stream_flow.StreamFlowKinds.{no_simple_key}
use Rattle.yaml_base.proofs.stream_flow.StreamFlowPairs.{FlowEntry, item_entry, simple_pair_entry, long_pair_entry, first_entry, next_entry}
use Rattle.yaml_base.proofs.stream_nodes.StreamAgrees.{node_tree, nodes_tree, pairs_tree}
use Rattle.yaml_base.proofs.stream_nodes.StreamStands.{NamesStand, AllNamesStand, PairsNamesStand, BodyStands, BodiesHold, ItemsHold, PairsHold}
use Rattle.yaml_base.proofs.stream_nodes.StreamTexts.{node_own, items_own, pairs_own}

-- one more item
items_step : (s : Effective) (own directives : List TagDirective) (items : Nodes) (last : Node) (column : ℕ) (cursor : Cursor)
    → ItemsTake s own directives items column cursor
    → (let symbols = render_place s (entry_place true (as_item (has_no_nodes items)) column) false (items_own items s directives true column cursor).cursor in
    NodeTakes s own directives (as_item (has_no_nodes items)) column symbols.cursor last)
    → ItemsTake s own directives (nodes_and items last) column cursor
items_step s own directives no_nodes last column cursor take node =
    let open_cursor = (indicator (codes "[") true true false cursor).cursor in
    let gap = flow_break s (Some column) open_cursor in
    let rendered = node_own last s directives (entry_place true (as_item true) column) gap.cursor in
    let tree = node_tree last s directives (entry_place true (as_item true) 0) in
    first_entry _ 0x5B cursor _ _ _ (ap (λ t. t ++ rendered.text) (append_assoc (space_if true cursor) (0x5B ∷ []) gap.text)
    ∙ append_assoc (space_if true cursor) (0x5B ∷ gap.text) rendered.text) node.ended
    (λ anchor tag. item_entry (rules_of s own) s (Some column) open_cursor rendered tree node anchor tag no_trees)
items_step s own directives (nodes_and items prev) last column cursor take node =
    let before = items_own (nodes_and items prev) s directives true column cursor in
    let comma_cursor = (indicator (codes ",") false false false before.cursor).cursor in
    let rendered = node_own last s directives (entry_place true (as_item false) column) (flow_break s (Some column) comma_cursor).cursor in
    let tree = node_tree last s directives (entry_place true (as_item false) 0) in
    let trees = nodes_tree (nodes_and items prev) s directives true in
    next_entry _ 0x5B cursor before _ _ _ _ take refl node.ended
    (λ anchor tag. item_entry (rules_of s own) s (Some column) comma_cursor rendered tree node anchor tag trees)

-- a pair with its key's indicator, if it has one
pair_entry : (rules : Rules) (s : Effective) (column : Option ℕ) (simple : Bool) (cursor : Cursor) (own value : Rendered) (key_tree value_tree : Tree)
    → FlowNode rules simple (key_indicator simple false (flow_break s column cursor).cursor).cursor own key_tree
    → FlowNode rules false (render_flow_place s (as_value simple) false column own.cursor).cursor value value_tree
    → (anchor tag : Option Text) (pairs : TreePairs)
    → FlowEntry rules
    ((((flow_break s column cursor).text ++ (key_indicator simple false (flow_break s column cursor).cursor).text) ++ own.text)
    ++ ((render_flow_place s (as_value simple) false column own.cursor).text ++ value.text))
    (in_mapping anchor tag pairs no_key) (in_mapping anchor tag (tree_pairs_and pairs key_tree value_tree) no_key)
pair_entry rules s column false cursor own value key_tree value_tree key node anchor tag pairs =
    long_pair_entry rules s column cursor own value key_tree _ key node anchor tag pairs
pair_entry rules s column true cursor own value key_tree value_tree key node anchor tag pairs =
    subst (λ t. FlowEntry rules ((t ++ own.text) ++ ((0x3A ∷ []) ++ value.text)) (in_mapping anchor tag pairs no_key)
    (in_mapping anchor tag (tree_pairs_and pairs key_tree value_tree) no_key)) (sym (append-nil (flow_break s column cursor).text))
    (simple_pair_entry rules s column cursor own value key_tree _ key node anchor tag pairs)

-- the text of the first pair
first_pair : (blank : Text) (bracket : ℕ) (gap symbol key rest : Text)
    → ((((blank ++ (bracket ∷ [])) ++ gap) ++ symbol) ++ key) ++ rest ≡ blank ++ (bracket ∷ (((gap ++ symbol) ++ key) ++ rest))
first_pair blank bracket gap symbol key rest = grind (arith, append_assoc)

-- one more pair
pairs_step : (s : Effective) (own directives : List TagDirective) (pairs : Pairs) (key value : Node) (column : ℕ) (cursor : Cursor)
    → PairsTake s own directives pairs column cursor
    → (let key_place = entry_place true (as_key (has_no_pairs pairs)) column in
    let symbols = render_place s key_place (is_simple s.canonical directives key) (pairs_own pairs s directives true column cursor).cursor in
    NodeTakes s own directives (as_key (has_no_pairs pairs)) column symbols.cursor key)
    → (let key_place = entry_place true (as_key (has_no_pairs pairs)) column in
    let value_place = entry_place true (as_value (is_simple s.canonical directives key)) column in
    let symbols = render_place s key_place (is_simple s.canonical directives key) (pairs_own pairs s directives true column cursor).cursor in
    let value_indicators = render_place s value_place false (node_own key s directives key_place symbols.cursor).cursor in
    NodeTakes s own directives (as_value (is_simple s.canonical directives key)) column value_indicators.cursor value)
    → PairsTake s own directives (pairs_and pairs key value) column cursor
pairs_step s own directives no_pairs key value column cursor take key_node value_node =
    let simple = is_simple s.canonical directives key in
    let symbols = key_indicator simple false (flow_break s (Some column) ((indicator (codes "{") true true false cursor).cursor)).cursor in
    let key_rendered = node_own key s directives (entry_place true (as_key true) column) symbols.cursor in
    let value_indicators = render_flow_place s (as_value simple) false (Some column) key_rendered.cursor in
    let value_rendered = node_own value s directives (entry_place true (as_value simple) column) value_indicators.cursor in
    first_entry _ 0x7B _ _ _ _ (first_pair _ 0x7B _ _ _ _) value_node.ended
    (λ anchor tag. pair_entry _ s _ _ _ _ _ _ _ key_node value_node _ tag _)
pairs_step s own directives (pairs_and pairs prev_key prev_value) key value column cursor take key_node value_node =
    let simple = is_simple s.canonical directives key in
    let before = pairs_own (pairs_and pairs prev_key prev_value) s directives true column cursor in
    let gap = flow_break s (Some column) ((indicator (codes ",") false false false before.cursor).cursor) in
    let symbols = key_indicator simple false gap.cursor in
    let key_rendered = node_own key s directives (entry_place true (as_key false) column) symbols.cursor in
    let value_indicators = render_flow_place s (as_value simple) false (Some column) key_rendered.cursor in
    let value_rendered = node_own value s directives (entry_place true (as_value simple) column) value_indicators.cursor in
    next_entry _ 0x7B _ _ _ _ _ _ take
    (append_assoc before.text (0x2C ∷ ((gap.text ++ symbols.text) ++ key_rendered.text)) (value_indicators.text ++ value_rendered.text)) value_node.ended
    (λ anchor tag. pair_entry _ s _ _ _ _ _ _ _ key_node value_node _ tag (pairs_tree (pairs_and pairs prev_key prev_value) s directives true))

-- Nodes

module _ (s : Effective) (own directives : List TagDirective) (fits : KeysFit s own directives) where
  -- each node, the items of each sequence and the pairs of each mapping
  mutual
    pub node_flow : (n : Node) (role : Role) (column : ℕ) (cursor : Cursor) → NamesStand s.portable own s.canonical directives n
        → BodiesHold (BodyStands s) n s directives (entry_place true role column) cursor
        → NodeTakes s own directives role column cursor n
    node_flow (alias_node name) role column cursor names bodies =
        alias_step s own directives fits role column cursor name names (is_key role && is_simple s.canonical directives (alias_node name)) refl
    node_flow (scalar_node content) role column cursor names bodies =
        scalar_step s own directives fits role column cursor content names bodies
    node_flow (sequence_node start no_nodes) role column cursor names bodies =
        empty_step s own directives _ cursor _ start 0x5B 0x5D (λ tag. sequence_tree start.anchor tag no_trees) names.0 names.1
        (class_fixed s.breaks12 0x5B refl) refl refl refl (record { white = refl; indention = and-false _ })
        (λ text h. fits (sequence_node start no_nodes) role column cursor text h names bodies)
    node_flow (sequence_node start (nodes_and items last)) role column cursor names bodies =
        let trees = nodes_tree (nodes_and items last) s directives true in
        collection_step s own directives _ cursor start 0x5B _ _ (λ anchor tag. in_sequence anchor tag trees) _ names.0 names.1
        (class_fixed s.breaks12 0x5B refl) refl (items_flow (nodes_and items last) (deeper s.indent (Some column)) _ names.2 bodies)
        (λ levels. sequence_ends (rules_of s own) s _ _ trees levels (Some column) _) (no_simple_key (is_key role) s.canonical)
    node_flow (mapping_node start no_pairs) role column cursor names bodies =
        empty_step s own directives _ cursor _ start 0x7B 0x7D (λ tag. mapping_tree start.anchor tag no_tree_pairs) names.0 names.1
        (class_fixed s.breaks12 0x7B refl) refl refl refl (record { white = refl; indention = and-false _ })
        (λ text h. fits (mapping_node start no_pairs) role column cursor text h names bodies)
    node_flow (mapping_node start (pairs_and pairs key value)) role column cursor names bodies =
        let trees = pairs_tree (pairs_and pairs key value) s directives true in
        collection_step s own directives _ cursor start 0x7B _ _ (λ anchor tag. in_mapping anchor tag trees no_key) _ names.0 names.1
        (class_fixed s.breaks12 0x7B refl) refl (pairs_flow (pairs_and pairs key value) (deeper s.indent (Some column)) _ names.2 bodies)
        (λ levels. mapping_ends (rules_of s own) s _ _ trees levels (Some column) _) (no_simple_key (is_key role) s.canonical)

    pub items_flow : (items : Nodes) (column : ℕ) (cursor : Cursor) → AllNamesStand s.portable own s.canonical directives items
        → ItemsHold (BodyStands s) items s directives true column cursor → ItemsTake s own directives items column cursor
    items_flow no_nodes column cursor names bodies = tt
    items_flow (nodes_and items last) column cursor names bodies =
        items_step s own directives items last column cursor (items_flow items column cursor names.0 bodies.0)
        (node_flow last (as_item (has_no_nodes items)) column (render_place s (entry_place true (as_item (has_no_nodes items)) column) false
        (items_own items s directives true column cursor).cursor).cursor names.1 bodies.1)

    pub pairs_flow : (pairs : Pairs) (column : ℕ) (cursor : Cursor) → PairsNamesStand s.portable own s.canonical directives pairs
        → PairsHold (BodyStands s) pairs s directives true column cursor → PairsTake s own directives pairs column cursor
    pairs_flow no_pairs column cursor names bodies = tt
    pairs_flow (pairs_and pairs key value) column cursor names bodies =
        let key_place = entry_place true (as_key (has_no_pairs pairs)) column in
        let symbols = render_place s key_place (is_simple s.canonical directives key) (pairs_own pairs s directives true column cursor).cursor in
        pairs_step s own directives pairs key value column cursor (pairs_flow pairs column cursor names.0 bodies.0)
        (node_flow key (as_key (has_no_pairs pairs)) column symbols.cursor names.1 bodies.1)
        (node_flow value (as_value (is_simple s.canonical directives key)) column
        (render_place s (entry_place true (as_value (is_simple s.canonical directives key)) column) false
        (node_own key s directives key_place symbols.cursor).cursor).cursor names.2 bodies.2)
