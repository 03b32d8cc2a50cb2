-- Graphs in the order of their walks, and the documents that events compose, computed.
use Rattle.yaml_dump.proofs.Common.{ℕ, Option, None, Some, replicate, length, true, List, [], ◌++◌, ◌∷◌, refl, ◌≡◌, Text, Event, GraphNode}
use Rattle.yaml_base.proofs.Common.{codes, fold, any_style, block, scalar, sequence_start, sequence_end, mapping_start, mapping_end, alias}
use Rattle.yaml_base.proofs.Common.{NumberPair, scalar_held, sequence_held, mapping_held, string_tag, sequence_tag, mapping_tag}
use Rattle.std.specs.List.{slice_get}
use Rattle.yaml_dump.specs.InOrder.{in_order}
use Rattle.yaml_dump.specs.Composition.{nothing_composed, composed}

abbrev string_of : Text → GraphNode
string_of value = record { tag = string_tag; held = scalar_held value any_style }

abbrev sequence_of : List ℕ → GraphNode
sequence_of items = record { tag = sequence_tag; held = sequence_held items block }

abbrev mapping_of : List NumberPair → GraphNode
mapping_of pairs = record { tag = mapping_tag; held = mapping_held pairs block }

abbrev nodes_in_order : List GraphNode → List GraphNode
nodes_in_order nodes = (in_order (record { start = record { version = None; directives = []; implicit = true }; nodes = nodes; end_implicit = true })).nodes

abbrev a_string : Option Text → Text → Event
a_string anchor value =
    scalar (record { anchor = anchor; tag = Some string_tag; value = value; plain_implicit = true; quoted_implicit = true; style = any_style })

abbrev a_sequence : Option Text → Event
a_sequence anchor = sequence_start (record { anchor = anchor; tag = Some sequence_tag; implicit = true; style = block })

abbrev composed_of : List Event → List GraphNode
composed_of events = (fold composed (nothing_composed (length events)) events).nodes

-- node 3 is entered before node 2, and node 4 isn't reached; a mapping's key comes before its value
exchanged : nodes_in_order (sequence_of (3 ∷ 2 ∷ 3 ∷ []) ∷ string_of (codes "b") ∷ sequence_of (1 ∷ []) ∷ string_of (codes "c") ∷ [])
    ≡ sequence_of (2 ∷ 3 ∷ 2 ∷ []) ∷ sequence_of (1 ∷ []) ∷ string_of (codes "b") ∷ []
exchanged = refl

turned_pair : nodes_in_order (mapping_of (record { key = 3; value = 2 } ∷ []) ∷ string_of (codes "v") ∷ string_of (codes "k") ∷ [])
    ≡ mapping_of (record { key = 2; value = 3 } ∷ []) ∷ string_of (codes "k") ∷ string_of (codes "v") ∷ []
turned_pair = refl

-- a sequence that is its own item
holds_itself : composed_of (a_sequence (Some (codes "id001")) ∷ alias (codes "id001") ∷ sequence_end ∷ []) ≡ sequence_of (1 ∷ []) ∷ []
holds_itself = refl

-- nodes that are shared at two depths
shared_twice : composed_of (a_sequence None ∷ a_sequence (Some (codes "id002")) ∷ a_string (Some (codes "id001")) (codes "a") ∷ alias (codes "id001")
    ∷ sequence_end ∷ alias (codes "id002") ∷ sequence_end ∷ [])
    ≡ sequence_of (2 ∷ 2 ∷ []) ∷ sequence_of (3 ∷ 3 ∷ []) ∷ string_of (codes "a") ∷ []
shared_twice = refl

-- a mapping that is a value of its own
within_itself : composed_of (mapping_start (record { anchor = Some (codes "id001"); tag = Some mapping_tag; implicit = true; style = block })
    ∷ a_string None (codes "k") ∷ alias (codes "id001") ∷ mapping_end ∷ [])
    ≡ mapping_of (record { key = 2; value = 1 } ∷ []) ∷ string_of (codes "k") ∷ []
within_itself = refl

-- a string in 40 sequences
deep : (length (composed_of (replicate 40 (a_sequence None) ++ a_string None (codes "a") ∷ replicate 40 sequence_end)) ≡ 41)
    × (slice_get (composed_of (replicate 40 (a_sequence None) ++ a_string None (codes "a") ∷ replicate 40 sequence_end)) 39 ≡ Some (sequence_of (41 ∷ [])))
deep = (refl, refl)
