-- The trees of the events of JSON values.
use Rattle.yaml_json.proofs.Common.{ℕ, Bool, true, List, [], map, ◌++◌, ◌∷◌, refl, ◌≡◌, append-nil, append_assoc, ap, sym, ◌∙◌, chars, Json, null, boolean}
use Rattle.yaml_json.proofs.Common.{number, string, Items, array, Members, object, no_items, item, no_members, member, Event, scalar, sequence_start}
use Rattle.yaml_json.proofs.Common.{sequence_end, mapping_start, mapping_end, scalar_node, Nodes, Pairs, no_nodes, nodes_and, no_pairs, pairs_and}
use Rattle.yaml_json.proofs.Common.{null_content, bool_content, number_content, text_content, collection_in, json_events, items_events, members_events}
use Rattle.yaml_json.proofs.Common.{parts_events, number_in, ap₂}
use Rattle.yaml_base.proofs.Common.{document_end, Node, sequence_node, mapping_node, node_events, nodes_events, pairs_events}
use Rattle.yaml_writer.proofs.{Common.plain_start, DocumentsOf.events_apart}

-- a value as a node; items and members after others
abbrev mutual
  pub json_node : Json → (canonical in_flow : Bool) → Node
  json_node null canonical in_flow = scalar_node (null_content canonical)
  json_node (boolean flag) canonical in_flow = scalar_node (bool_content canonical flag)
  json_node (number text) canonical in_flow = scalar_node (number_content canonical (number_in text))
  json_node (string text) canonical in_flow = scalar_node (text_content (chars text))
  json_node (array items) canonical in_flow = sequence_node (collection_in in_flow) (items_nodes items canonical in_flow no_nodes)
  json_node (object members) canonical in_flow = mapping_node (collection_in in_flow) (members_pairs members canonical in_flow no_pairs)

  pub items_nodes : Items → (canonical in_flow : Bool) → Nodes → Nodes
  items_nodes no_items canonical in_flow before = before
  items_nodes (item json items) canonical in_flow before = items_nodes items canonical in_flow (nodes_and before (json_node json canonical in_flow))

  pub members_pairs : Members → (canonical in_flow : Bool) → Pairs → Pairs
  members_pairs no_members canonical in_flow before = before
  members_pairs (member key json members) canonical in_flow before =
      members_pairs members canonical in_flow (pairs_and before (scalar_node (text_content (chars key))) (json_node json canonical in_flow))

-- their events are those of the value
mutual
  pub node_flat : (json : Json) (canonical in_flow : Bool) → node_events (json_node json canonical in_flow) ≡ json_events canonical in_flow json
  node_flat (array items) canonical in_flow =
      ap (λ (events : List Event). sequence_start (collection_in in_flow) ∷ (events ++ sequence_end ∷ [])) (items_flat items canonical in_flow no_nodes)
  node_flat (object members) canonical in_flow =
      ap (λ (events : List Event). mapping_start (collection_in in_flow) ∷ (events ++ mapping_end ∷ [])) (members_flat members canonical in_flow no_pairs)
  node_flat _ canonical in_flow = refl

  items_flat : (items : Items) (canonical in_flow : Bool) (before : Nodes)
      → nodes_events (items_nodes items canonical in_flow before) ≡ nodes_events before ++ items_events canonical in_flow items
  items_flat no_items canonical in_flow before = sym (append-nil (nodes_events before))
  items_flat (item json items) canonical in_flow before =
      items_flat items canonical in_flow (nodes_and before (json_node json canonical in_flow))
      ∙ append_assoc (nodes_events before) (node_events (json_node json canonical in_flow)) (items_events canonical in_flow items)
      ∙ ap (λ (events : List Event). nodes_events before ++ (events ++ items_events canonical in_flow items)) (node_flat json canonical in_flow)

  members_flat : (members : Members) (canonical in_flow : Bool) (before : Pairs)
      → pairs_events (members_pairs members canonical in_flow before) ≡ pairs_events before ++ members_events canonical in_flow members
  members_flat no_members canonical in_flow before = sym (append-nil (pairs_events before))
  members_flat (member key json members) canonical in_flow before =
      let named = scalar_node (text_content (chars key)) in
      let node = json_node json canonical in_flow in
      members_flat members canonical in_flow (pairs_and before named node)
      ∙ append_assoc (pairs_events before) (node_events named ++ node_events node) (members_events canonical in_flow members)
      ∙ ap (λ (events : List Event). pairs_events before ++ (scalar (text_content (chars key)) ∷ (events ++ members_events canonical in_flow members)))
      (node_flat json canonical in_flow)

-- ---- some values

-- the values of some texts, and their nodes
abbrev pub values_of : List (List ℕ × Json) → List Json
values_of parts = map (λ part. part.1) parts

abbrev pub nodes_of : (canonical in_flow : Bool) → List Json → List Node
nodes_of canonical in_flow values = map (λ json. json_node json canonical in_flow) values

-- the events of some texts, within the start of the first document and the end of the last
pub parts_are : (canonical in_flow : Bool) (part : List ℕ × Json) (rest : List (List ℕ × Json))
    → events_apart (nodes_of canonical in_flow (values_of (part ∷ rest))) ≡ parts_events canonical in_flow (part ∷ rest)
parts_are canonical in_flow part [] = node_flat part.1 canonical in_flow
parts_are canonical in_flow part (next ∷ rest) =
    ap₂ (λ (first later : List Event). first ++ document_end true ∷ plain_start ∷ later) (node_flat part.1 canonical in_flow)
    (parts_are canonical in_flow next rest)
