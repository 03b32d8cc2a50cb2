-- The canonical bytes of a graph, by which graphs are compared.
use Rattle.std.specs.Prelude.{◌≡◌, ℕ, true, false, Some, List, [], ◌∷◌, ◌++◌}
use Rattle.yaml_base.specs.Event.{Event}
use Rattle.yaml_base.specs.Output.{output_of}
use Rattle.yaml_base.specs.Refusal.{refusal}
use Rattle.yaml_base.specs.graphs.Meetings.{Graph}
use Rattle.yaml_base.specs.graphs.Dumped.{GraphsRead}
use Rattle.yaml_base.specs.graphs.Isomorphic.{bare}
use Rattle.yaml_base.specs.values.TypedValues.{typed_settings}
use Rattle.yaml_base.specs.declared.errors.yaml_error_t.{yaml_error_t}
use Rattle.yaml_caller.specs.Alone.{graph_events}

-- bytes that are those of a stream of one document, which has the graph's nodes, no directives, and implicit marks, and in which the
-- canonical reader finds the graph
pub record WritesGraph (graph : Graph) (bytes : List ℕ) : Type 0 where
  pub output : bytes ≡ output_of typed_settings (graph_events (bare graph))
  pub reads : GraphsRead false (bare graph ∷ []) bytes

-- one of some events is refused with this error
pub record AreRefused (events : List Event) (error : yaml_error_t) : Type 0 where
  pub prefix : List Event
  pub event : Event
  pub later : List Event
  pub parts : prefix ++ event ∷ later ≡ events
  pub refusal : refusal true prefix event ≡ Some error

-- the graph can't be written: an event of the stream is refused
abbrev pub IsRefused : Graph → yaml_error_t → Type 0
IsRefused graph error = AreRefused (graph_events (bare graph)) error
