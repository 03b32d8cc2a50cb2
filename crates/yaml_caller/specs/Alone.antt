-- A document that is dumped alone, as a whole stream.
use Rattle.std.specs.Prelude.{◌≡◌, ◌⊎◌, ℕ, true, false, None, Some, Result, Ok, Err, List, [], ◌∷◌, ◌++◌}
use Rattle.yaml_base.specs.Settings.{Settings}
use Rattle.yaml_base.specs.Event.{Event, stream_start, stream_end}
use Rattle.yaml_base.specs.Output.{output_of}
use Rattle.yaml_base.specs.StreamLaw.{reads_alike}
use Rattle.yaml_base.specs.graphs.Meetings.{Graph, document_event_list}
use Rattle.yaml_base.specs.graphs.Dumped.{GraphsRead}
use Rattle.yaml_base.specs.declared.errors.yaml_error_t.{yaml_error_t}
use Rattle.yaml_base.specs.declared.errors.yaml_error_t.TheVariants.{Memory}
use Rattle.yaml_emitter.specs.Promises.{Promised}
use Rattle.yaml_emitter.specs.State.{State}
use Rattle.yaml_dump.specs.GraphTrees.{GraphsReadBack}

-- an emitter with an output and without an error, whose stream is neither opened nor closed
pub record IsUnopened (emitter : State) : Type 0 where
  pub output : emitter.has_output ≡ true
  pub no_error : emitter.error ≡ None
  pub unopened : emitter.opened ≡ false
  pub unclosed : emitter.closed ≡ false

-- a stream of one document, which has this graph
abbrev pub graph_events : Graph → List Event
graph_events graph = stream_start None ∷ (document_event_list graph ++ stream_end ∷ [])

-- the output is that of the stream, and the trees that the readers find in it unfold the graph
pub record DumpedAlone (given : Settings) (graph : Graph) (output : List ℕ) : Type 0 where
  pub output_is : output ≡ output_of given (graph_events graph)
  pub reads : given.canonical ≡ true → GraphsRead given.breaks12 (graph ∷ []) output
  pub trees : reads_alike given.portable given.canonical (graph_events graph) ≡ true → GraphsReadBack given.breaks12 (graph ∷ []) output

-- the emitter failed at the last of some first events of the stream
pub record FailsAlone (given : Settings) (graph : Graph) (error : yaml_error_t) (after : State) : Type 0 where
  pub all : List Event
  pub rest : List Event
  pub parts : all ++ rest ≡ graph_events graph
  pub promised : Promised given all after
  pub is : after.error ≡ Some error

-- the graph's document is dumped alone; or its list of events found no room, or the emitter failed
abbrev pub DumpsAlone : Settings → Graph → Result (Unit {0}) yaml_error_t → State → Type 0
DumpsAlone given graph (Ok done) after = DumpedAlone given graph after.page.output
DumpsAlone given graph (Err error) after = (error ≡ Memory) ⊎ FailsAlone given graph error after
