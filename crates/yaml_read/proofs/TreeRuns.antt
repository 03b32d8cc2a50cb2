-- The text of a tree of events is that of its events, one after another.
use Rattle.yaml_read.proofs.Common.{ℕ, ◌*◌, ◌+◌, true, Some, List, [], ◌∷◌, ◌++◌, refl, ◌≡◌, append_assoc, append-nil, ap, sym, subst, ◌∙◌, arith, codes}
use Rattle.yaml_read.proofs.Common.{length, Text, Event, alias, sequence_start, sequence_end, mapping_start, mapping_end, alias_node, node_events, nodes_events}
use Rattle.yaml_read.proofs.Common.{pairs_events, closing_line, node_text, in_quotes, line_at, Pending, HasRunText, event_text, item_awaited, key_awaited}
use Rattle.yaml_read.proofs.Common.{lead_text, may_come, more_come, next_awaited, next_open, left_open, root_ends, trail_text, value_awaited}
use Rattle.yaml_base.proofs.Common.{scalar, Node, scalar_node, sequence_node, mapping_node, Nodes, no_nodes, nodes_and, Pairs, no_pairs, pairs_and}
use Rattle.yaml_base.proofs.Common.{has_no_nodes, has_no_pairs}
use Rattle.yaml_base.specs.graphs.DumpedText.{collection_properties, node_pairs_text, nodes_text, scalar_properties}

-- the events that may follow a node: none after the root, else a run
abbrev pub FollowsNode : List Pending → List Event → Text → Type 0
FollowsNode [] more rest = (more ≡ []) × (rest ≡ [])
FollowsNode (awaited ∷ outer) more rest = HasRunText (next_awaited awaited ∷ outer) more rest

-- an event that ends a node, and what follows the node
ends_node : (levels outer : List Pending) (event : Event) (more : List Event) (rest text : Text) → may_come levels event ≡ true
    → next_open levels event ≡ left_open outer → text ≡ event_text levels event ++ rest → FollowsNode outer more rest
    → HasRunText levels (event ∷ more) text
ends_node levels [] event more rest text may after is follows =
    subst (λ (events : List Event). HasRunText levels (event ∷ events) text) (sym follows.0)
    (root_ends levels event text may after (is ∙ ap (λ (t : Text). event_text levels event ++ t) follows.1 ∙ append-nil (event_text levels event)))
ends_node levels (awaited ∷ outer) event more rest text may after is follows =
    more_come levels (next_awaited awaited ∷ outer) event more rest text may after is follows

-- an event that begins a collection, and what follows up to its end and after it
begins_node : (levels : List Pending) (awaited : Pending) (first last : Event) (inside more : List Event) (rest text : Text) → may_come levels first ≡ true
    → next_open levels first ≡ Some (awaited ∷ levels) → text ≡ event_text levels first ++ rest
    → HasRunText (awaited ∷ levels) (inside ++ last ∷ more) rest
    → HasRunText levels (first ∷ ((inside ++ last ∷ []) ++ more)) text
begins_node levels awaited first last inside more rest text may after is run =
    subst (λ (events : List Event). HasRunText levels (first ∷ events) text) (sym (append_assoc inside (last ∷ []) more))
    (more_come levels (awaited ∷ levels) first (inside ++ last ∷ more) rest text may after is run)

-- a run by other words
same_run : (levels : List Pending) (events others : List Event) (text other : Text) → others ≡ events → other ≡ text → HasRunText levels events text
    → HasRunText levels others other
same_run levels events others text other is also run =
    subst (λ (t : Text). HasRunText levels others t) (sym also) (subst (λ (e : List Event). HasRunText levels e text) (sym is) run)

-- the column of a collection's entries
deeper : (awaited : Pending) (levels : List Pending) → length levels * 2 + 2 ≡ length (awaited ∷ levels) * 2
deeper awaited levels = omega arith

-- ---- texts regrouped

leaf_grouped : (lead own trail rest : Text) → lead ++ (own ++ (trail ++ rest)) ≡ (lead ++ (own ++ trail)) ++ rest
leaf_grouped lead own trail rest = simp append_assoc

start_grouped : (lead own bracket inside ending rest : Text)
    → lead ++ ((own ++ (bracket ++ (inside ++ ending))) ++ rest) ≡ (lead ++ (own ++ bracket)) ++ (inside ++ (ending ++ rest))
start_grouped lead own bracket inside ending rest = simp append_assoc

item_grouped : (before line item comma rest : Text)
    → (before ++ (line ++ (item ++ comma))) ++ rest ≡ before ++ (line ++ (item ++ (comma ++ rest)))
item_grouped before line item comma rest = simp append_assoc

pair_grouped : (before line key colon value rest : Text)
    → (before ++ (line ++ (codes "? " ++ (key ++ (line ++ (colon ++ (value ++ codes ","))))))) ++ rest
    ≡ before ++ ((line ++ codes "? ") ++ (key ++ ((line ++ colon) ++ (value ++ (codes "," ++ rest)))))
pair_grouped before line key colon value rest = simp append_assoc

-- ---- runs

mutual
  -- a node's events, and then what follows it
  pub node_run : (node : Node) (levels : List Pending) (more : List Event) (rest : Text) → FollowsNode levels more rest
      → HasRunText levels (node_events node ++ more) (lead_text levels ++ (node_text (length levels * 2) node ++ (trail_text levels ++ rest)))
  node_run (alias_node name) levels more rest follows =
      ends_node _ levels (alias name) more rest _ refl refl (leaf_grouped (lead_text levels) (codes "*" ++ name) (trail_text levels) rest) follows
  node_run (scalar_node content) levels more rest follows =
      ends_node _ levels (scalar content) more rest _ refl refl
      (leaf_grouped (lead_text levels) (scalar_properties content ++ in_quotes content.value) (trail_text levels) rest) follows
  node_run (sequence_node start items) levels more rest follows =
      let open_now = item_awaited (has_no_nodes items) ∷ levels in
      let ending = closing_line (length levels * 2) (has_no_nodes items) ++ codes "]" in
      let behind = ending ++ (trail_text levels ++ rest) in
      let ends : HasRunText open_now (sequence_end ∷ more) behind =
      ends_node _ levels sequence_end more rest _ refl refl (sym (append_assoc ending (trail_text levels) rest)) follows in
      begins_node _ (item_awaited true) (sequence_start start) sequence_end (nodes_events items) more _ _ refl refl (ap (λ (column : ℕ). lead_text levels
      ++ ((collection_properties start ++ (codes "[" ++ (nodes_text column items ++ ending))) ++ (trail_text levels ++ rest)))
      (deeper (item_awaited true) levels)
      ∙ start_grouped (lead_text levels) (collection_properties start) (codes "[") (nodes_text (length (item_awaited true ∷ levels) * 2) items) ending
      (trail_text levels ++ rest)) (nodes_run items levels (sequence_end ∷ more) behind ends)
  node_run (mapping_node start pairs) levels more rest follows =
      let open_now = key_awaited (has_no_pairs pairs) ∷ levels in
      let ending = closing_line (length levels * 2) (has_no_pairs pairs) ++ codes "}" in
      let behind = ending ++ (trail_text levels ++ rest) in
      let ends : HasRunText open_now (mapping_end ∷ more) behind =
      ends_node _ levels mapping_end more rest _ refl refl (sym (append_assoc ending (trail_text levels) rest)) follows in
      begins_node _ (key_awaited true) (mapping_start start) mapping_end (pairs_events pairs) more _ _ refl refl (ap (λ (column : ℕ). lead_text levels
      ++ ((collection_properties start ++ (codes "{" ++ (node_pairs_text column pairs ++ ending))) ++ (trail_text levels ++ rest)))
      (deeper (key_awaited true) levels)
      ∙ start_grouped (lead_text levels) (collection_properties start) (codes "{") (node_pairs_text (length (key_awaited true ∷ levels) * 2) pairs) ending
      (trail_text levels ++ rest)) (pairs_run pairs levels (mapping_end ∷ more) behind ends)

  -- items, and then what follows the last one
  nodes_run : (items : Nodes) (levels : List Pending) (more : List Event) (rest : Text) → HasRunText (item_awaited (has_no_nodes items) ∷ levels) more rest
      → HasRunText (item_awaited true ∷ levels) (nodes_events items ++ more) (nodes_text (length (item_awaited true ∷ levels) * 2) items ++ rest)
  nodes_run no_nodes levels more rest run = run
  nodes_run (nodes_and items item) levels more rest run =
      let column = length (item_awaited true ∷ levels) * 2 in
      let last = node_run item (item_awaited (has_no_nodes items) ∷ levels) more rest run in
      same_run (item_awaited true ∷ levels) _ _ _ _ (append_assoc (nodes_events items) (node_events item) more)
      (item_grouped (nodes_text column items) (line_at column) (node_text column item) (codes ",") rest)
      (nodes_run items levels (node_events item ++ more) (line_at column ++ (node_text column item ++ (codes "," ++ rest))) last)

  -- pairs, and then what follows the last one
  pairs_run : (pairs : Pairs) (levels : List Pending) (more : List Event) (rest : Text) → HasRunText (key_awaited (has_no_pairs pairs) ∷ levels) more rest
      → HasRunText (key_awaited true ∷ levels) (pairs_events pairs ++ more) (node_pairs_text (length (key_awaited true ∷ levels) * 2) pairs ++ rest)
  pairs_run no_pairs levels more rest run = run
  pairs_run (pairs_and pairs key value) levels more rest run =
      let column = length (key_awaited true ∷ levels) * 2 in
      let of_value = (line_at column ++ codes ": ") ++ (node_text column value ++ (codes "," ++ rest)) in
      let last = node_run value (value_awaited ∷ levels) more rest run in
      let both = node_run key (key_awaited (has_no_pairs pairs) ∷ levels) (node_events value ++ more) of_value last in
      same_run (key_awaited true ∷ levels) _ _ _ _ (append_assoc (pairs_events pairs) (node_events key ++ node_events value) more
      ∙ ap (λ (after : List Event). pairs_events pairs ++ after) (append_assoc (node_events key) (node_events value) more))
      (pair_grouped (node_pairs_text column pairs) (line_at column) (node_text column key) (codes ": ") (node_text column value) rest)
      (pairs_run pairs levels (node_events key ++ (node_events value ++ more)) ((line_at column ++ codes "? ") ++ (node_text column key ++ of_value)) both)

-- the events of a whole tree
pub tree_runs : (root : Node) → HasRunText [] (node_events root) (node_text 0 root)
tree_runs root = same_run [] _ _ _ _ (sym (append-nil (node_events root))) (sym (append-nil (node_text 0 root))) (node_run root [] [] [] (refl, refl))
