-- The effect of emitting events in order, and of opening, dumping to and closing a stream.
use Rattle.std.specs.Prelude.{◌≡◌, ◌⊎◌, ◌==◌, ◌||◌, Bool, true, false, None, Result, Ok, Err, List, [], ◌∷◌, ◌++◌, length, if◌then◌else◌, is_ok}
use Rattle.yaml_base.specs.Settings.{Settings}
use Rattle.yaml_base.specs.Event.{Event, stream_start, stream_end}
use Rattle.yaml_base.specs.graphs.Meetings.{Graph, document_event_list}
use Rattle.yaml_base.specs.graphs.Dumped.{IsDumpOf, GraphsRead}
use Rattle.yaml_base.specs.declared.errors.yaml_error_t.{yaml_error_t}
use Rattle.yaml_base.specs.declared.errors.yaml_error_t.TheVariants.{Memory}
use Rattle.yaml_pen.specs.Page.{Page}
use Rattle.yaml_pen.specs.Wrote.{Grows}
use Rattle.yaml_emitter.specs.Emits.{Emits}
use Rattle.yaml_emitter.specs.Promises.{Promised}
use Rattle.yaml_emitter.specs.State.{State}

-- all events are emitted, without an error; if there are none, nothing changes
pub record EmitsAll (before : State) (events : List Event) (after : State) : Type 0 where
  pub emits : Emits before events (Ok tt) after
  pub unchanged : events ≡ [] → after ≡ before

-- after these events an emitter with these settings had no error; its text and output grew from those before, and into those after
pub record KeepsEarlier (given : Settings) (events : List Event) (before after : Page) : Type 0 where
  pub between : State
  pub no_error : between.error ≡ None
  pub promised : Promised given events between
  pub grown : Grows before between.page
  pub grows : Grows between.page after

-- the events before the first whose call returns an error, and that event; none after it is given, and the bytes of those before it are kept
pub record FailsAt (before : State) (events : List Event) (error : yaml_error_t) (after : State) : Type 0 where
  pub earlier : List Event
  pub event : Event
  pub later : List Event
  pub parts : earlier ++ event ∷ later ≡ events
  pub kept : KeepsEarlier before.given (before.events ++ earlier) before.page after.page
  pub emits : Emits before (earlier ++ event ∷ []) (Err error) after

-- events are emitted in order, up to the first error
abbrev pub EmitsEach : State → List Event → Result (Unit {0}) yaml_error_t → State → Type 0
EmitsEach before events (Ok _) after = EmitsAll before events after
EmitsEach before events (Err error) after = FailsAt before events error after

-- a stream is opened by its start, unless it is opened
abbrev pub OpensFrom : (opened : Bool) → State → Result (Unit {0}) yaml_error_t → State → Type 0
OpensFrom true before answer after = (answer ≡ Ok tt) × (after ≡ before)
OpensFrom false before answer after = Emits (record before { opened = is_ok answer }) (stream_start None ∷ []) answer after

-- a stream is closed by its end, unless it is closed
abbrev pub ClosesFrom : (closed : Bool) → State → Result (Unit {0}) yaml_error_t → State → Type 0
ClosesFrom true before answer after = (answer ≡ Ok tt) × (after ≡ before)
ClosesFrom false before answer after = Emits (record before { closed = is_ok answer }) (stream_end ∷ []) answer after

abbrev pub Closes : State → Result (Unit {0}) yaml_error_t → State → Type 0
Closes before answer after = ClosesFrom before.closed before answer after

-- true if there are events
abbrev pub has_some : List Event → Bool
has_some [] = false
has_some (event ∷ rest) = true

-- the events that open a stream, unless it is opened
abbrev pub opening_unless : Bool → List Event
opening_unless opened = if opened then [] else stream_start None ∷ []

-- the events of a document without nodes: the stream's end, unless it is closed
abbrev pub closing_unless : Bool → List Event
closing_unless closed = if closed then [] else stream_end ∷ []

-- the events of a dump: the document's, after the stream's start unless it is opened; a document without nodes
-- closes the stream
abbrev pub dump_events : State → (nodeless : Bool) → List Event → List Event
dump_events state nodeless document = opening_unless state.opened ++ (if nodeless then closing_unless state.closed else document)

abbrev pub dumped_events : State → Graph → List Event
dumped_events state graph = dump_events state (length graph.nodes == 0) (document_event_list graph)

-- a dump that fails at an event leaves the stream opened if it was before, or if an event before the failing one opened it
pub record FailsDump (nodeless : Bool) (document : List Event) (before : State) (error : yaml_error_t) (after : State) : Type 0 where
  pub fails : FailsAt (record before { opened = after.opened }) (dump_events before nodeless document) error after
  pub opened_before : after.opened ≡ (before.opened || has_some fails.earlier)

-- a dump on an emitter without an error: the document's events are emitted, the stream is then opened, and closed if it was before or
-- if the document has no nodes; or there was no memory for its list of events, and nothing was done; or it fails at an event
abbrev pub DumpsEvents : (nodeless : Bool) → List Event → State → Result (Unit {0}) yaml_error_t → State → Type 0
DumpsEvents nodeless document before (Ok _) after =
    EmitsAll (record before { opened = true; closed = before.closed || nodeless }) (dump_events before nodeless document) after
DumpsEvents nodeless document before (Err error) after = ((error ≡ Memory) × (after ≡ before)) ⊎ FailsDump nodeless document before error after

-- a dump of the events of a graph
abbrev pub Dumps : Graph → State → Result (Unit {0}) yaml_error_t → State → Type 0
Dumps graph before answer after = DumpsEvents (length graph.nodes == 0) (document_event_list graph) before answer after

-- if the events are dumps of graphs in canonical mode, the canonical reader finds contents in their output that unfold the graphs
abbrev pub ReadsGraphs : State → Type 0
ReadsGraphs after =
    (graphs : List Graph) → after.given.canonical ≡ true → IsDumpOf graphs after.events → GraphsRead after.given.breaks12 graphs after.page.output
