-- The consequences of dumps, and of emitting events in order.
use Rattle.std.specs.Prelude.{Bool, ◌≡◌, ◌⊎◌, true, None, Result, Err, List}
use Rattle.yaml_base.specs.Event.{Event}
use Rattle.yaml_base.specs.graphs.Meetings.{Graph, document_event_list}
use Rattle.yaml_base.specs.graphs.Unfolding.{EventsUnfold, IsWholeGraph}
use Rattle.yaml_base.specs.declared.errors.yaml_error_t.{yaml_error_t}
use Rattle.yaml_pen.specs.Wrote.{Grows}
use Rattle.yaml_emitter.specs.Emits.{Emits, IsPromised}
use Rattle.yaml_emitter.specs.State.{State, KeepsSet}
use Rattle.yaml_dump.specs.Dumps.{DumpsEvents, EmitsEach, ReadsGraphs}
use Rattle.yaml_dump.specs.GraphTrees.{ReadsTrees}

-- nothing was done, or the stream was begun
abbrev pub IsBegun : State → State → Type 0
IsBegun before after = (after ≡ before) ⊎ (after.started ≡ true)

-- text and output only grow; the caller's settings stay, except whether the stream is begun, opened and closed, and which events were
-- given; and nothing was done, or the stream was begun
pub record KeepsRest (before after : State) : Type 0 where
  pub grows : Grows before.page after.page
  pub set : KeepsSet (record before { events = after.events; started = after.started; opened = after.opened; closed = after.closed }) after
  pub begun : IsBegun before after

-- emitting in order gives some events to the emitter; both it and a dump keep the rest; a dump that fails closes nothing; a document's
-- events unfold its graph; and in the output of an emitter without an error both readers find the graphs that were dumped
pub record DumpsTell : Type 0 where
  pub emits : (before after : State) (events : List Event) (answer : Result (Unit {0}) yaml_error_t) → EmitsEach before events answer after
      → (given : List Event) × Emits before given answer after
  pub each : (before after : State) (events : List Event) (answer : Result (Unit {0}) yaml_error_t) → EmitsEach before events answer after
      → KeepsRest before after
  pub dumps : (nodeless : Bool) (document : List Event) (before after : State) (answer : Result (Unit {0}) yaml_error_t)
      → DumpsEvents nodeless document before answer after
      → KeepsRest before after
  pub unclosed : (nodeless : Bool) (document : List Event) (before after : State) (error : yaml_error_t)
      → DumpsEvents nodeless document before (Err error) after
      → after.closed ≡ before.closed
  pub unfolds : (graph : Graph) → IsWholeGraph graph → EventsUnfold graph (document_event_list graph)
  pub reads : (after : State) → IsPromised after → after.error ≡ None → ReadsGraphs after × ReadsTrees after
