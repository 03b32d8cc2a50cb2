-- The meaning of an array of a C program's nodes: the graph of a document, with the texts of an arena, and the numbers of another array.
use Rattle.std.specs.Prelude.{ℕ, ℤ, true, Option, None, Some, List, [], ◌∷◌, ◌==◌, ◌&&◌, not, nat_le, map, flat_map, length}
use Rattle.std.specs.Prelude.{if◌then◌else◌, option_map, option_and_then}
use Rattle.yaml_base.specs.Characters.{Text}
use Rattle.yaml_base.specs.Event.{CollectionStyle, Event, ScalarStyle}
use Rattle.yaml_base.specs.Settings.{largest_i32}
use Rattle.yaml_base.specs.graphs.Meetings.{Graph, GraphNode, Held, NumberPair, graph_steps, is_whole, mapping_held, mapping_tag, scalar_held, sequence_held}
use Rattle.yaml_base.specs.graphs.Meetings.{sequence_tag, step_events, string_tag}
use Rattle.yaml_base.specs.graphs.SeenNodes.{seen_number}
use Rattle.yaml_writer.specs.TypedEvents.{typed_event}
use Rattle.yaml_c.specs.Arena.{part_of, text_in_arena}
use Rattle.yaml_c.specs.EventRecords.{all_read, collection_style_numbered, scalar_style_numbered}
use Rattle.yaml_c.specs.declared.nodes.NodeRecord.{NodeRecord}

-- ---- one node

-- The tag of a node's kind: yaml_node_type_t.
abbrev pub kind_tag : ℕ → Text
kind_tag kind = if kind == 2 then sequence_tag else (if kind == 3 then mapping_tag else string_tag)

-- A node's tag: that of its kind if it has none of its own.
abbrev pub tag_recorded : List ℕ → NodeRecord → Option Text
tag_recorded arena node = if node.has_tag == 0 then Some (kind_tag node.kind) else text_in_arena arena node.tag

-- Keys and values in turn as pairs, if the last key has a value.
abbrev pub pairs_recorded : List ℤ → Option (List NumberPair)
pairs_recorded [] = Some []
pairs_recorded (key ∷ []) = None
pairs_recorded (key ∷ value ∷ rest) =
    option_map (λ others. record { key = seen_number key; value = seen_number value } ∷ others) (pairs_recorded rest)

-- What a node contains, if its style and what it contains have a reading.
abbrev pub scalar_from : Option ScalarStyle → Option Text → Option Held
scalar_from (Some style) (Some value) = Some (scalar_held value style)
scalar_from style value = None

abbrev pub sequence_from : Option CollectionStyle → Option (List ℤ) → Option Held
sequence_from (Some style) (Some numbers) = Some (sequence_held (map seen_number numbers) style)
sequence_from style numbers = None

abbrev pub mapping_from : Option CollectionStyle → Option (List NumberPair) → Option Held
mapping_from (Some style) (Some pairs) = Some (mapping_held pairs style)
mapping_from style pairs = None

abbrev pub scalar_recorded : List ℕ → NodeRecord → Option Held
scalar_recorded arena node = scalar_from (scalar_style_numbered node.style) (text_in_arena arena node.content)

abbrev pub sequence_recorded : List ℤ → NodeRecord → Option Held
sequence_recorded numbers node = sequence_from (collection_style_numbered node.style) (part_of numbers node.content)

abbrev pub mapping_recorded : List ℤ → NodeRecord → Option Held
mapping_recorded numbers node = mapping_from (collection_style_numbered node.style) (option_and_then pairs_recorded (part_of numbers node.content))

abbrev pub held_recorded : List ℕ → List ℤ → NodeRecord → Option Held
held_recorded arena numbers node =
    if node.kind == 1 then scalar_recorded arena node
    else (if node.kind == 2 then sequence_recorded numbers node
    else (if node.kind == 3 then mapping_recorded numbers node else None))

abbrev pub node_from : Option Text → Option Held → Option GraphNode
node_from (Some tag) (Some held) = Some (record { tag = tag; held = held })
node_from tag held = None

abbrev pub node_recorded : List ℕ → List ℤ → NodeRecord → Option GraphNode
node_recorded arena numbers node = node_from (tag_recorded arena node) (held_recorded arena numbers node)

-- ---- the array

-- A document of these nodes, without directives, whose start and end may be left out.
abbrev pub graph_with : List GraphNode → Graph
graph_with nodes = record { start = record { version = None; directives = []; implicit = true }; nodes = nodes; end_implicit = true }

-- The document of these nodes, if there are some, not more than can be numbered, and each number in them names one of them.
abbrev pub document_with : List GraphNode → Option Graph
document_with nodes =
    if not (length nodes == 0) && nat_le (length nodes) largest_i32 && is_whole (graph_with nodes) then Some (graph_with nodes) else None

abbrev pub nodes_recorded : List ℕ → List ℤ → List NodeRecord → Option (List GraphNode)
nodes_recorded arena numbers nodes = all_read (node_recorded arena numbers) nodes

abbrev pub graph_recorded : List ℕ → List ℤ → List NodeRecord → Option Graph
graph_recorded arena numbers nodes = option_and_then document_with (nodes_recorded arena numbers nodes)

-- The events of a document's root, without those of its start and its end.
abbrev pub root_events : Graph → List Event
root_events graph = let walk = graph_steps graph in flat_map (step_events graph walk) walk

-- The events of the root of such a document, which keep each node's tag.
abbrev pub root_recorded : List ℕ → List ℤ → List NodeRecord → Option (List Event)
root_recorded arena numbers nodes = option_map (λ graph. map typed_event (root_events graph)) (graph_recorded arena numbers nodes)
