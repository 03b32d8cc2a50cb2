-- Documents, and the canonical bytes that they are read of.
use Rattle.std.specs.Prelude.{ℕ, ◌≡◌, true, Option, None, Some, List, All, map}
use Rattle.std.specs.Str.{all_scalars}
use Rattle.yaml_base.specs.Characters.{Text}
use Rattle.yaml_base.specs.Encoding.{encode}
use Rattle.yaml_base.specs.Event.{Event, any_layout, any_style, scalar, sequence_start, mapping_start}
use Rattle.yaml_base.specs.Settings.{utf8}
use Rattle.yaml_base.specs.Tags.{tag_fault}
use Rattle.yaml_base.specs.graphs.DumpedText.{HasDumpedText, IsBareDocument}
use Rattle.yaml_base.specs.graphs.Meetings.{Graph, GraphNode, Held, document_event_list, mapping_held, scalar_held, sequence_held}
use Rattle.yaml_base.specs.graphs.Unfolding.{IsWholeGraph}

-- a tag that can be written, of Unicode scalar values, as in every text of a running program
abbrev pub IsWritableTag : Option Text → Type 0
IsWritableTag None = Unit {0}
IsWritableTag (Some tag) = (tag_fault tag ≡ None) × (all_scalars tag ≡ true)

-- an event whose texts can be written
abbrev pub IsWritable : Event → Type 0
IsWritable (scalar content) = IsWritableTag content.tag × (all_scalars content.value ≡ true)
IsWritable (sequence_start start) = IsWritableTag start.tag
IsWritable (mapping_start start) = IsWritableTag start.tag
IsWritable _ = Unit {0}

-- these are the canonical bytes of a graph's dump: without version and directives, and with an end that isn't written
pub record AreDumpedBytes (graph : Graph) (bytes : List ℕ) : Type 0 where
  pub whole : IsWholeGraph graph
  pub bare : IsBareDocument graph.start graph.end_implicit
  pub writable : All IsWritable (document_event_list graph)
  pub text : Text
  pub is_dumped : HasDumpedText graph text
  pub is_encoded : encode (Some utf8) text ≡ bytes

-- ---- styles

-- The contents of a node, a node and a graph, each of no style; the document's start is implicit.
abbrev pub unstyled_held : Held → Held
unstyled_held (scalar_held value style) = scalar_held value any_style
unstyled_held (sequence_held items style) = sequence_held items any_layout
unstyled_held (mapping_held pairs style) = mapping_held pairs any_layout

abbrev pub unstyled_node : GraphNode → GraphNode
unstyled_node node = record { tag = node.tag; held = unstyled_held node.held }

abbrev pub unstyled_graph : Graph → Graph
unstyled_graph graph =
    record { start = record graph.start { implicit = true }; nodes = map unstyled_node graph.nodes; end_implicit = graph.end_implicit }
