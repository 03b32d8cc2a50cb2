-- Documents dumped in a form: each event as it is, or typed.
use Rattle.std.specs.Prelude.{◌≡◌, ◌==◌, Option, None, Some, Result, Err, List, map, length}
use Rattle.yaml_base.specs.Event.{Event}
use Rattle.yaml_base.specs.graphs.Meetings.{Graph, document_event_list}
use Rattle.yaml_base.specs.declared.errors.yaml_error_t.{yaml_error_t}
use Rattle.yaml_emitter.specs.State.{State}
use Rattle.yaml_writer.specs.TypedEvents.{typed_event}
use Rattle.yaml_dump.specs.Dumps.{DumpsEvents}
use Rattle.yaml_dump.specs.declared.emitting.EventForm.{EventForm}
use Rattle.yaml_dump.specs.declared.emitting.EventForm.TheVariants.{Same, Typed}

abbrev pub event_in_form : EventForm → Event → Event
event_in_form Same = λ event. event
event_in_form Typed = typed_event

-- a dump of these events; on an emitter with an error nothing changes, and that error is the answer
abbrev pub DumpsFrom : Option yaml_error_t → Graph → List Event → State → Result (Unit {0}) yaml_error_t → State → Type 0
DumpsFrom (Some error) graph document before answer after = (after ≡ before) × (answer ≡ Err error)
DumpsFrom None graph document before answer after = DumpsEvents (length graph.nodes == 0) document before answer after

-- a dump of the document's events in this form
abbrev pub DumpsInForm : EventForm → Graph → State → Result (Unit {0}) yaml_error_t → State → Type 0
DumpsInForm form graph before answer after =
    DumpsFrom before.error graph (map (event_in_form form) (document_event_list graph)) before answer after
