-- The events of a walk's steps, and the parts of the nodes that are left for later steps.
use Rattle.std.specs.Prelude.{ℕ, suc, ◌-◌, ◌<◌, ◌≡◌, false, Option, None, Some, List, [], ◌∷◌, ◌++◌, length, slice_get, slice_index}
use Rattle.std.specs.List.{flat_map, list_any}
use Rattle.yaml_base.specs.Characters.{Text}
use Rattle.yaml_base.specs.Event.{Event, document_start, document_end}
use Rattle.yaml_base.specs.graphs.Meetings.{Held, scalar_held, sequence_held, mapping_held, GraphNode, Graph, Step, enters, meets_again, is_entry_of}
use Rattle.yaml_base.specs.graphs.Meetings.{opening_events, closing_events, step_events}
use Rattle.yaml_base.specs.Seen.{seen_event}
use Rattle.yaml_base.specs.declared.events.yaml_event_t.{yaml_event_t}
use Rattle.yaml_dump.specs.Anchors.{IsNumbered}

-- one event or none
abbrev pub seen_events_of : {A : Type 0} → Option (yaml_event_t A) → List Event
seen_events_of None = []
seen_events_of (Some event) = seen_event event ∷ []

-- the node of a step is numbered, and has a rank if it is met again
pub record StepIsPlaced (places : List ℕ) (step : Step) : Type 0 where
  pub numbered : IsNumbered (length places) step
  pub shared : (number : ℕ) → step ≡ meets_again number → 0 < slice_index places (number - 1)

-- the events of a document whose walk has these steps
abbrev pub walk_events : Graph → List Step → List Event
walk_events graph walk = document_start graph.start ∷ (flat_map (step_events graph walk) walk ++ document_end graph.end_implicit ∷ [])

-- after these steps the nodes have all parts of the graph that later events need: the texts of each node that wasn't entered, and
-- the kinds of all
pub record HoldsTexts (graph : Graph) (before : List Step) (nodes : List GraphNode) : Type 0 where
  pub counted : length nodes ≡ length graph.nodes
  pub opens : (anchor : Option Text) (place : ℕ) → list_any (is_entry_of (suc place)) before ≡ false
      → opening_events anchor (slice_get nodes place) ≡ opening_events anchor (slice_get graph.nodes place)
  pub ends : (place : ℕ) → closing_events (slice_get nodes place) ≡ closing_events (slice_get graph.nodes place)

-- a step that enters a node is the first that enters it
abbrev pub IsFirstEntry : List Step → Step → Type 0
IsFirstEntry before step = (number : ℕ) → step ≡ enters number → list_any (is_entry_of number) before ≡ false

-- a node's contents without its children
abbrev pub held_without_children : Held → Held
held_without_children (scalar_held value style) = scalar_held value style
held_without_children (sequence_held items style) = sequence_held [] style
held_without_children (mapping_held pairs style) = mapping_held [] style

-- a node without its children
abbrev pub without_children : GraphNode → GraphNode
without_children node = record { tag = node.tag; held = held_without_children node.held }
