-- A document that holds itself, as a stream.
use Rattle.yaml_caller.proofs.Common.{true, List, refl, ◌≡◌, Text, any_style, block, Event, output_of, GraphNode, graph_events}
use Rattle.yaml_caller.proofs.Common.{cycle_graph, cycle_bytes, cycle_settings}
use Rattle.yaml_base.proofs.Common.{reads_alike, NumberPair, scalar_held, mapping_held}
use Rattle.std.specs.Char.{encode_utf8}
use Rattle.yaml_base.specs.graphs.Meetings.{decimal_digits}

-- a scalar with a tag
abbrev pub string_node : Text → Text → GraphNode
string_node tag value = record { tag = tag; held = scalar_held value any_style }

-- a block mapping with a tag
abbrev pub mapping_of : Text → List NumberPair → GraphNode
mapping_of tag pairs = record { tag = tag; held = mapping_held pairs block }

-- the stream's events
abbrev pub cycle_events : List Event
cycle_events = graph_events cycle_graph

-- by the definitions, without any emitter
pub cycle_row : output_of cycle_settings cycle_events ≡ cycle_bytes
unfolding encode_utf8 decimal_digits
cycle_row = refl

-- no document is lost, and no tag has a flow indicator
pub all_portable : reads_alike cycle_settings.portable cycle_settings.canonical cycle_events ≡ true
unfolding decimal_digits
all_portable = refl
