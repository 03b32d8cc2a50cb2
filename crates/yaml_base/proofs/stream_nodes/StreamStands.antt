-- The conditions under which a layout's parts are readable: names and tags that are read as they were given, and tidy bodies that read as their
-- values.
use Rattle.yaml_base.proofs.Common.{ℕ, if◌then◌else◌, Option, None, Some, codes, Bool, false, true, List, ◌≡◌, Text, Cursor, TagDirective, Scalar, scalar_tag}
use Rattle.yaml_base.proofs.Common.{collection_tag, Node, alias_node, scalar_node, Nodes, sequence_node, Pairs, mapping_node, no_nodes, nodes_and, no_pairs}
use Rattle.yaml_base.proofs.Common.{pairs_and, Body, render_properties, render_separation, render_body, choice_of, body_at, is_written_in_flow, entry_place}
use Rattle.yaml_base.proofs.Common.{as_item, as_key, as_value, Place, is_undented, deeper, entries_column, has_no_nodes, has_no_pairs, is_simple, is_simple_at}
use Rattle.yaml_base.proofs.Common.{render_place, read_in_style, Effective, spelling, spelled, BodyIsTidy, ParsedTag, bare_parsed, name_parsed, name_read}
use Rattle.yaml_base.proofs.stream_nodes.StreamProperties.{WrittenTag, IsNamed}
use Rattle.yaml_base.proofs.stream_nodes.StreamTexts.{node_own, items_own, pairs_own}

-- Names and tags

-- a tag as it is written, if one is, or the bare tag
abbrev pub tag_written : (portable : Bool) → List TagDirective → Option Text → (bare : Bool) → Option Text
tag_written portable directives (Some tag) bare = Some (spelled portable (spelling directives tag))
tag_written portable directives None true = Some (codes "!")
tag_written portable directives None false = None

-- the tag as the reader is to read it
abbrev pub tag_meant : Option Text → (bare : Bool) → Option ParsedTag
tag_meant (Some tag) bare = Some (name_parsed tag)
tag_meant None true = Some bare_parsed
tag_meant None false = None

-- a tag, if there is one, reads as it was given by a document's own directives
abbrev pub TagStands : (portable : Bool) → List TagDirective → List TagDirective → Option Text → Type 0
TagStands portable own directives None = Unit {0}
TagStands portable own directives (Some tag) = WrittenTag own (spelled portable (spelling directives tag)) (name_parsed tag)

-- the names and tags of a node and of all nodes in it read so
abbrev mutual
  pub NamesStand : (portable : Bool) → List TagDirective → Bool → List TagDirective → Node → Type 0
  NamesStand portable own canonical directives (alias_node name) = name_read name ≡ Some name
  NamesStand portable own canonical directives (scalar_node content) = IsNamed content.anchor × TagStands portable own directives (scalar_tag canonical content)
  NamesStand portable own canonical directives (sequence_node start items) =
      IsNamed start.anchor × TagStands portable own directives (collection_tag canonical start) × AllNamesStand portable own canonical directives items
  NamesStand portable own canonical directives (mapping_node start pairs) =
      IsNamed start.anchor × TagStands portable own directives (collection_tag canonical start) × PairsNamesStand portable own canonical directives pairs

  pub AllNamesStand : (portable : Bool) → List TagDirective → Bool → List TagDirective → Nodes → Type 0
  AllNamesStand portable own canonical directives no_nodes = Unit {0}
  AllNamesStand portable own canonical directives (nodes_and items last) = AllNamesStand portable own canonical directives items
      × NamesStand portable own canonical directives last

  pub PairsNamesStand : (portable : Bool) → List TagDirective → Bool → List TagDirective → Pairs → Type 0
  PairsNamesStand portable own canonical directives no_pairs = Unit {0}
  PairsNamesStand portable own canonical directives (pairs_and pairs key value) =
      PairsNamesStand portable own canonical directives pairs × NamesStand portable own canonical directives key
      × NamesStand portable own canonical directives value

-- Bodies

-- a body is tidy, and its text reads as its value
pub record BodyStands (s : Effective) (body : Body) : Type 0 where
  pub tidy : BodyIsTidy s body
  pub reads : read_in_style body.style s.breaks12 body.in_flow body.column body.text ≡ Some body.value

-- the body that is rendered for a scalar from a cursor after its place's indicators on
abbrev pub body_from : Effective → List TagDirective → Place → Scalar → Cursor → Body
body_from s directives place content cursor =
    let simple = is_simple_at place s.canonical directives (scalar_node content) in
    let choice = choice_of s place simple content in
    let properties = render_properties s.portable directives content.anchor (scalar_tag s.canonical content) choice.bare cursor in
    let separation = render_separation choice.style place.in_flow content.value properties.cursor in
    body_at place choice.style content.value
    (render_body choice.style s (if simple then None else s.width) (deeper s.indent place.column) content.value separation.cursor)

-- the bodies of a node are so, from a cursor after its place's indicators on; with it, those of items and of pairs
abbrev mutual
  pub BodiesHold : (Body → Type 0) → Node → Effective → List TagDirective → Place → Cursor → Type 0
  BodiesHold P (alias_node name) s directives place cursor = Unit {0}
  BodiesHold P (scalar_node content) s directives place cursor = P (body_from s directives place content cursor)
  BodiesHold P (sequence_node start items) s directives place cursor =
      let in_flow = is_written_in_flow s place start (has_no_nodes items) in
      let begun = render_properties s.portable directives start.anchor (collection_tag s.canonical start) false cursor in
      ItemsHold P items s directives in_flow (entries_column in_flow (is_undented s place.role) s.indent place.column begun.cursor) begun.cursor
  BodiesHold P (mapping_node start pairs) s directives place cursor =
      let in_flow = is_written_in_flow s place start (has_no_pairs pairs) in
      let begun = render_properties s.portable directives start.anchor (collection_tag s.canonical start) false cursor in
      PairsHold P pairs s directives in_flow (entries_column in_flow false s.indent place.column begun.cursor) begun.cursor

  pub ItemsHold : (Body → Type 0) → Nodes → Effective → List TagDirective → (in_flow : Bool) → ℕ → Cursor → Type 0
  ItemsHold P no_nodes s directives in_flow column cursor = Unit {0}
  ItemsHold P (nodes_and items last) s directives in_flow column cursor =
      let place = entry_place in_flow (as_item (has_no_nodes items)) column in
      ItemsHold P items s directives in_flow column cursor
      × BodiesHold P last s directives place (render_place s place false (items_own items s directives in_flow column cursor).cursor).cursor

  pub PairsHold : (Body → Type 0) → Pairs → Effective → List TagDirective → (in_flow : Bool) → ℕ → Cursor → Type 0
  PairsHold P no_pairs s directives in_flow column cursor = Unit {0}
  PairsHold P (pairs_and pairs key value) s directives in_flow column cursor =
      let key_place = entry_place in_flow (as_key (has_no_pairs pairs)) column in
      let value_place = entry_place in_flow (as_value (is_simple s.canonical directives key)) column in
      let symbols = render_place s key_place (is_simple s.canonical directives key) (pairs_own pairs s directives in_flow column cursor).cursor in
      PairsHold P pairs s directives in_flow column cursor
      × BodiesHold P key s directives key_place symbols.cursor
      × BodiesHold P value s directives value_place (render_place s value_place false (node_own key s directives key_place symbols.cursor).cursor).cursor
