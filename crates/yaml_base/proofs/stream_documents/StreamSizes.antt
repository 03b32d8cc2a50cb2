-- A node is no deeper than its text is long, and one.
use Rattle.yaml_base.proofs.Common.{suc, ℕ, ◌+◌, ◌≤◌, Some, length, Bool, false, true, List, ◌++◌, refl, ◌≡◌, length-append, ap, ◌∙◌}
use Rattle.yaml_base.proofs.Common.{arith, false≢true, Text, Cursor, Rendered, space_if, TagDirective, Collection, Node}
use Rattle.yaml_base.proofs.Common.{alias_node, scalar_node, Nodes, sequence_node, Pairs, mapping_node, no_nodes, nodes_and, no_pairs, pairs_and, entry_place}
use Rattle.yaml_base.proofs.Common.{Role, as_root, as_item, as_key, as_value, Place, is_undented, entries_column, has_no_nodes, has_no_pairs, is_simple}
use Rattle.yaml_base.proofs.Common.{opening_or_comma, render_place, Effective, Tree, Rules, nat_tests}
use Rattle.yaml_base.proofs.{stream_lines.StreamClosed.indicator_cursor, stream_nodes.StreamAgrees.node_tree, stream_nodes.StreamItems.item_place}
use Rattle.yaml_base.proofs.stream_nodes.StreamFits.{size, items_size, pairs_size}
use Rattle.yaml_base.proofs.stream_nodes.StreamNodesFit.{EitherType, render_begun, Leaves, ItemLeaves, PairLeaves}
use Rattle.yaml_base.proofs.stream_nodes.StreamPairs.{KeyFits, key_place, value_place, colon_cursor, simple_key}
use Rattle.yaml_base.proofs.stream_nodes.StreamTexts.{placed_own, node_own, items_own, pairs_own}

-- the length of three texts one after another
length_three : (a b c : Text) → length ((a ++ b) ++ c) ≡ length a + length b + length c
length_three a b c = length-append (a ++ b) c ∙ ap (λ n. n + length c) (length-append a b)

-- a text within two others is no longer
pub length_within : (a b c : Text) → length b ≤ length ((a ++ b) ++ c)
length_within a b c = let e = length_three a b c in omega arith

-- true if a place puts text before its node
abbrev puts_text : (in_flow : Bool) → Role → (simple : Bool) → Bool
puts_text in_flow as_root simple = false
puts_text false (as_key first) true = false
puts_text _ _ _ = true

opening_indicator : (bracket : Text) (first : Bool) (cursor : Cursor) → 1 ≤ length bracket → 1 ≤ length (opening_or_comma bracket first cursor).text
opening_indicator bracket true cursor h = omega (arith, length-append (space_if true cursor) bracket)
opening_indicator bracket false cursor h = omega arith

place_puts : (s : Effective) (in_flow : Bool) (role : Role) (simple : Bool) (column : ℕ) (cursor : Cursor) → puts_text in_flow role simple ≡ true
    → 1 ≤ length (render_place s (entry_place in_flow role column) simple cursor).text
place_puts s in_flow role simple column cursor h = grind (arith, length-append, opening_indicator, false≢true)

-- a node after other text is no deeper than both are long
placed_length : (s : Effective) (place : Place) (simple : Bool) (before : Rendered) (own : Cursor → Rendered) (m n : ℕ) → m ≤ length before.text
    → (let symbols = render_place s place simple before.cursor in n ≤ length symbols.text + length (own symbols.cursor).text)
    → m + n ≤ length (placed_own s place simple before own).text
placed_length s place simple before own m n h k = grind (arith, nat_tests, length-append)

-- nor after an indicator
placed_more : (s : Effective) (in_flow : Bool) (role : Role) (column : ℕ) (simple : Bool) (before : Rendered) (own : Cursor → Rendered) (m n : ℕ)
    → puts_text in_flow role simple ≡ true → m ≤ length before.text
    → n ≤ suc (length (own (render_place s (entry_place in_flow role column) simple before.cursor).cursor).text)
    → m + n ≤ length (placed_own s (entry_place in_flow role column) simple before own).text
placed_more s in_flow role column simple before own m n shows h k =
    let some = place_puts s in_flow role simple column before.cursor shows in
    placed_length s (entry_place in_flow role column) simple before own m n h (omega arith)

-- In flow

mutual
  flow_node : (n : Node) (s : Effective) (directives : List TagDirective) (role : Role) (column : ℕ) (cursor : Cursor)
      → size n ≤ suc (length (node_own n s directives (entry_place true role column) cursor).text)
  flow_node (alias_node name) s directives role column cursor = omega arith
  flow_node (scalar_node content) s directives role column cursor = omega arith
  flow_node (sequence_node start items) s directives role column cursor =
      let begun = render_begun s directives start cursor in
      let e = entries_column true (is_undented s role) s.indent (Some column) begun.cursor in
      grind (arith, length_within, flow_items items s directives e begun.cursor)
  flow_node (mapping_node start pairs) s directives role column cursor =
      let begun = render_begun s directives start cursor in
      let e = entries_column true false s.indent (Some column) begun.cursor in
      grind (arith, length_within, flow_pairs pairs s directives e begun.cursor)

  pub flow_items : (items : Nodes) (s : Effective) (directives : List TagDirective) (e : ℕ) (cursor : Cursor)
      → items_size items ≤ length (items_own items s directives true e cursor).text
  flow_items no_nodes s directives e cursor = omega arith
  flow_items (nodes_and items last) s directives e cursor =
      let role = as_item (has_no_nodes items) in
      placed_more s true role e false (items_own items s directives true e cursor) (node_own last s directives (entry_place true role e)) _ _ refl
      (flow_items items s directives e cursor) (flow_node last s directives role e _)

  pub flow_pairs : (pairs : Pairs) (s : Effective) (directives : List TagDirective) (e : ℕ) (cursor : Cursor)
      → pairs_size pairs ≤ length (pairs_own pairs s directives true e cursor).text
  flow_pairs no_pairs s directives e cursor = omega arith
  flow_pairs (pairs_and pairs key value) s directives e cursor =
      let key_role = as_key (has_no_pairs pairs) in
      let value_role = as_value (is_simple s.canonical directives key) in
      let simple = is_simple s.canonical directives key in
      let before = pairs_own pairs s directives true e cursor in
      let keyed = placed_own s (entry_place true key_role e) simple before (node_own key s directives (entry_place true key_role e)) in
      let both = placed_more s true value_role e false keyed (node_own value s directives (entry_place true value_role e)) _ (size value) refl
      (placed_more s true key_role e simple before (node_own key s directives (entry_place true key_role e)) (pairs_size pairs) (size key) refl
      (flow_pairs pairs s directives e cursor) (flow_node key s directives key_role e _)) (flow_node value s directives value_role e _) in
      omega arith

-- In blocks

-- a simple key holds no node
simple_size : (canonical : Bool) (directives : List TagDirective) (n : Node) → is_simple canonical directives n ≡ true → size n ≡ 1
simple_size canonical directives n h = grind (arith, nat_tests, false≢true)

-- the text of a simple key isn't empty
key_length : (rules : Rules) (text : Text) (tree : Tree) → KeyFits rules text tree → 1 ≤ length text
key_length rules text tree fit = let e = ap length fit.is in omega arith

-- a sequence, if its items are no deeper in a block
sequence_within : (start : Collection) (items : Nodes) (rules : Rules) (s : Effective) (directives : List TagDirective) (place : Place) (cursor : Cursor)
    → Leaves (sequence_node start items) rules s directives place cursor
    → ((e : ℕ) (cursor : Cursor) → ItemLeaves items rules s directives e → items_size items ≤ length (items_own items s directives false e cursor).text)
    → suc (items_size items) ≤ suc (length (node_own (sequence_node start items) s directives place cursor).text)
sequence_within start items rules s directives place cursor leaves each = grind (arith, items_own, length_within, flow_items)

-- a mapping, if its pairs are
mapping_within : (start : Collection) (pairs : Pairs) (rules : Rules) (s : Effective) (directives : List TagDirective) (place : Place) (cursor : Cursor)
    → Leaves (mapping_node start pairs) rules s directives place cursor
    → ((e : ℕ) (cursor : Cursor) → PairLeaves pairs rules s directives e → pairs_size pairs ≤ length (pairs_own pairs s directives false e cursor).text)
    → suc (pairs_size pairs) ≤ suc (length (node_own (mapping_node start pairs) s directives place cursor).text)
mapping_within start pairs rules s directives place cursor leaves each = grind (arith, pairs_own, length_within, flow_pairs)

-- a pair after others, if its key and its value are no deeper than they are long
pair_within : (x : Bool) (pairs : Pairs) (key value : Node) (rules : Rules) (s : Effective) (directives : List TagDirective) (e m : ℕ) (before : Rendered)
    → is_simple s.canonical directives key ≡ x
    → EitherType x
    (KeyFits rules (simple_key pairs key s directives e).text (node_tree key s directives (key_place pairs e))
    × Leaves value rules s directives (value_place true e) (colon_cursor (simple_key pairs key s directives e).cursor))
    (Leaves key rules s directives (key_place pairs e) (indicator_cursor e) × Leaves value rules s directives (value_place false e) (indicator_cursor e))
    → m ≤ length before.text
    → ((y : Bool) (cursor : Cursor) → Leaves value rules s directives (value_place y e) cursor
    → size value ≤ suc (length (node_own value s directives (value_place y e) cursor).text))
    → (Leaves key rules s directives (key_place pairs e) (indicator_cursor e)
    → size key ≤ suc (length (node_own key s directives (key_place pairs e) (indicator_cursor e)).text))
    → m + size key + size value ≤ length (placed_own s (value_place x e) false
    (placed_own s (key_place pairs e) x before (node_own key s directives (key_place pairs e))) (node_own value s directives (value_place x e))).text
pair_within true pairs key value rules s directives e m before is leaves h value_each key_each =
    let k = simple_key pairs key s directives e in
    let one = simple_size s.canonical directives key is in
    let some = key_length rules k.text (node_tree key s directives (key_place pairs e)) leaves.0 in
    let keyed = placed_own s (key_place pairs e) true before (node_own key s directives (key_place pairs e)) in
    placed_more s false (as_value true) e false keyed (node_own value s directives (value_place true e)) (m + size key) (size value) refl
    (placed_length s (key_place pairs e) true before (node_own key s directives (key_place pairs e)) m (size key) h (omega arith))
    (value_each true (colon_cursor k.cursor) leaves.1)
pair_within false pairs key value rules s directives e m before is leaves h value_each key_each =
    let keyed = placed_own s (key_place pairs e) false before (node_own key s directives (key_place pairs e)) in
    placed_more s false (as_value false) e false keyed (node_own value s directives (value_place false e)) (m + size key) (size value) refl
    (placed_more s false (as_key (has_no_pairs pairs)) e false before (node_own key s directives (key_place pairs e)) m (size key) refl h (key_each leaves.0))
    (value_each false (indicator_cursor e) leaves.1)

-- a node in a block, whose parts are read, and the items of a sequence and the pairs of a mapping there
mutual
  pub block_node : (n : Node) (rules : Rules) (s : Effective) (directives : List TagDirective) (place : Place) (cursor : Cursor)
      → Leaves n rules s directives place cursor
      → size n ≤ suc (length (node_own n s directives place cursor).text)
  block_node (alias_node name) rules s directives place cursor leaves = omega arith
  block_node (scalar_node content) rules s directives place cursor leaves = omega arith
  block_node (sequence_node start items) rules s directives place cursor leaves =
      sequence_within start items rules s directives place cursor leaves (λ e cursor each. block_items items rules s directives e cursor each)
  block_node (mapping_node start pairs) rules s directives place cursor leaves =
      mapping_within start pairs rules s directives place cursor leaves (λ e cursor each. block_pairs pairs rules s directives e cursor each)

  block_items : (items : Nodes) (rules : Rules) (s : Effective) (directives : List TagDirective) (e : ℕ) (cursor : Cursor)
      → ItemLeaves items rules s directives e
      → items_size items ≤ length (items_own items s directives false e cursor).text
  block_items no_nodes rules s directives e cursor leaves = omega arith
  block_items (nodes_and items last) rules s directives e cursor leaves =
      placed_more s false (as_item (has_no_nodes items)) e false (items_own items s directives false e cursor)
      (node_own last s directives (item_place items e)) _ _ refl
      (block_items items rules s directives e cursor leaves.0) (block_node last rules s directives (item_place items e) (indicator_cursor e) leaves.1)

  block_pairs : (pairs : Pairs) (rules : Rules) (s : Effective) (directives : List TagDirective) (e : ℕ) (cursor : Cursor)
      → PairLeaves pairs rules s directives e
      → pairs_size pairs ≤ length (pairs_own pairs s directives false e cursor).text
  block_pairs no_pairs rules s directives e cursor leaves = omega arith
  block_pairs (pairs_and pairs key value) rules s directives e cursor leaves =
      let both = pair_within (is_simple s.canonical directives key) pairs key value rules s directives e (pairs_size pairs)
      (pairs_own pairs s directives false e cursor) refl leaves.1 (block_pairs pairs rules s directives e cursor leaves.0)
      (λ y cursor each. block_node value rules s directives (value_place y e) cursor each)
      (λ each. block_node key rules s directives (key_place pairs e) (indicator_cursor e) each) in
      omega arith
