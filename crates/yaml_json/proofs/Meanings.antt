-- The meaning of the tree of a JSON value, at every place of its scalars.
use Rattle.yaml_json.proofs.Common.{Option, None, Bool, List, [], ◌++◌, ◌∷◌, ◌≡◌, append-nil, append_assoc, subst, sym, ◌∙◌, chars, Json, null, boolean, number}
use Rattle.yaml_json.proofs.Common.{string, Items, array, Members, object, no_items, item, no_members, member, HasNumbers, node_tree, Text, scalar_node, Nodes}
use Rattle.yaml_json.proofs.Common.{Pairs, no_nodes, nodes_and, no_pairs, pairs_and, Effective, Tree, text_content, collection_in, Schema}
use Rattle.yaml_base.proofs.Common.{TagDirective, as_item, as_key, as_value, Place, has_no_nodes, has_no_pairs, is_simple, is_written_in_flow, entry_place}
use Rattle.yaml_base.proofs.Common.{sequence_tree, mapping_tree}
use Rattle.yaml_base.proofs.stream_nodes.StreamAgrees.{nodes_tree, pairs_tree}
use Rattle.json.specs.Tree.{ItemsHaveNumbers, MembersHaveNumbers}
use Rattle.yaml_json.proofs.{NumberBridge.number_is, Trees.json_node, Trees.items_nodes, Trees.members_pairs}
use Rattle.yaml_json.specs.Means.{Means, ItemsMean, MembersMean}
use Rattle.yaml_writer.specs.Means.{trees_in_order, pairs_in_order}
use Rattle.yaml_writer.proofs.ScalarMeanings.{ReadsScalars, flag_at, null_at, number_at, text_at, untagged}

module _ (schema : Schema) (reads : ReadsScalars schema) (s : Effective) (directives : List TagDirective) (in_flow : Bool) where
  -- Trees that mean some items, after other trees.
  abbrev ItemsAfter : Items → Nodes → (flow : Bool) → Type 0
  ItemsAfter items before flow =
      (trees : List Tree)
      × (trees_in_order (nodes_tree (items_nodes items s.canonical in_flow before) s directives flow)
      ≡ trees_in_order (nodes_tree before s directives flow) ++ trees)
      × ItemsMean schema items trees

  abbrev MembersAfter : Members → Pairs → (flow : Bool) → Type 0
  MembersAfter members before flow =
      (trees : List (Tree × Tree))
      × (pairs_in_order (pairs_tree (members_pairs members s.canonical in_flow before) s directives flow) ≡ pairs_in_order
      (pairs_tree before s directives flow) ++ trees)
      × MembersMean schema members trees

  mutual
    pub node_means : (json : Json) → HasNumbers json → (place : Place) → Means schema json (node_tree (json_node json s.canonical in_flow) s directives place)
    node_means null numbers place = null_at schema reads s directives place
    node_means (boolean flag) numbers place = flag_at schema reads s directives flag place
    node_means (number text) numbers place = number_at schema reads s directives text (number_is text numbers) place
    node_means (string text) numbers place = text_at schema reads s directives text place
    node_means (array items) numbers place =
        let flow = is_written_in_flow s place (collection_in in_flow) (has_no_nodes (items_nodes items s.canonical in_flow no_nodes)) in
        let after = items_mean items numbers no_nodes flow in
        subst (λ (tag : Option Text). Means schema (array items) (sequence_tree None tag (nodes_tree (items_nodes items s.canonical in_flow no_nodes) s
        directives flow))) (sym (untagged s.canonical in_flow)) (subst (ItemsMean schema items) (sym after.1) after.2)
    node_means (object members) numbers place =
        let flow = is_written_in_flow s place (collection_in in_flow) (has_no_pairs (members_pairs members s.canonical in_flow no_pairs)) in
        let after = members_mean members numbers no_pairs flow in
        subst (λ (tag : Option Text). Means schema (object members) (mapping_tree None tag (pairs_tree (members_pairs members s.canonical in_flow no_pairs) s
        directives flow))) (sym (untagged s.canonical in_flow)) (subst (MembersMean schema members) (sym after.1) after.2)

    items_mean : (items : Items) → ItemsHaveNumbers items → (before : Nodes) (flow : Bool) → ItemsAfter items before flow
    items_mean no_items numbers before flow = ([], sym (append-nil (trees_in_order (nodes_tree before s directives flow))), tt)
    items_mean (item json items) numbers before flow =
        let node = json_node json s.canonical in_flow in
        let place = entry_place flow (as_item (has_no_nodes before)) 0 in
        let tree = node_tree node s directives place in
        let after = items_mean items numbers.1 (nodes_and before node) flow in (
          tree ∷ after.0,
          after.1 ∙ append_assoc (trees_in_order (nodes_tree before s directives flow)) (tree ∷ []) after.0,
          (node_means json numbers.0 place, after.2),
        )

    members_mean : (members : Members) → MembersHaveNumbers members → (before : Pairs) (flow : Bool) → MembersAfter members before flow
    members_mean no_members numbers before flow = ([], sym (append-nil (pairs_in_order (pairs_tree before s directives flow))), tt)
    members_mean (member key json members) numbers before flow =
        let named = scalar_node (text_content (chars key)) in
        let node = json_node json s.canonical in_flow in
        let key_place = entry_place flow (as_key (has_no_pairs before)) 0 in
        let place = entry_place flow (as_value (is_simple s.canonical directives named)) 0 in
        let pair : Tree × Tree = (node_tree named s directives key_place, node_tree node s directives place) in
        let after = members_mean members numbers.1 (pairs_and before named node) flow in (
          pair ∷ after.0,
          after.1 ∙ append_assoc (pairs_in_order (pairs_tree before s directives flow)) (pair ∷ []) after.0,
          (text_at schema reads s directives key key_place, node_means json numbers.0 place, after.2),
        )
