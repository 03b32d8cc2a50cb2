-- The effect of one event on a machine.
use Rattle.std.specs.Prelude.{◌≡◌, Bool, true, false, Option, None, Some, Result, Ok, Err, List, ◌∷◌}
use Rattle.yaml_base.specs.Settings.{effective}
use Rattle.yaml_base.specs.Cursor.{Cursor, Rendered}
use Rattle.yaml_base.specs.Event.{Event, stream_start, sequence_start, sequence_end, mapping_start, mapping_end}
use Rattle.yaml_base.specs.Output.{flushes}
use Rattle.yaml_base.specs.Steps.{Stepped, step, stage_refusal}
use Rattle.yaml_base.specs.declared.errors.yaml_error_t.{yaml_error_t}
use Rattle.yaml_base.specs.declared.errors.yaml_error_t.TheVariants.{WriteError, Memory}
use Rattle.yaml_pen.specs.Page.{encoded}
use Rattle.yaml_pen.specs.Wrote.{Wrote}
use Rattle.yaml_emitter.specs.State.{MachineState, standing_of}
use Rattle.yaml_emitter.specs.WrittenPieces.{piece_at}

-- true if the first event ends a sequence
abbrev pub ends_sequence : List Event → Bool
ends_sequence (sequence_end ∷ rest) = true
ends_sequence rest = false

-- true if the first event ends a mapping
abbrev pub ends_mapping : List Event → Bool
ends_mapping (mapping_end ∷ rest) = true
ends_mapping rest = false

-- true if an event starts a collection and the next event ends it
abbrev pub closes_at_once : Event → List Event → Bool
closes_at_once (sequence_start start) rest = ends_sequence rest
closes_at_once (mapping_start start) rest = ends_mapping rest
closes_at_once event rest = false

-- an event's piece, and the stage after it; `empty`: the collection that it starts ends at once
abbrev pub event_stepped : MachineState → Event → (empty : Bool) → Stepped
event_stepped before event empty = step before.settings before.stage event empty (standing_of before)

-- an event's piece, by the cursor before it
abbrev pub render_event : MachineState → Event → (empty : Bool) → Cursor → Rendered
render_event before event empty =
    piece_at (λ standing. (step before.settings before.stage event empty standing).rendered) before.open_ended

-- the refusal of an event at this stage, if there is one
abbrev pub refusal_now : MachineState → Event → Option yaml_error_t
refusal_now state event = stage_refusal state.given.canonical state.stage event

-- an event changes the text and the stage, and nothing that the caller set
abbrev pub Keeps : MachineState → MachineState → Type 0
Keeps before after =
    after
    ≡ record before { settings = after.settings; stage = after.stage; open_ended = after.open_ended; page = after.page }

-- the stream's start sets the page's encoding and break; any other event writes its piece
abbrev pub WritesPage : Event → (empty : Bool) → MachineState → MachineState → Type 0
WritesPage (stream_start encoding) empty before after =
    let settings = effective before.given encoding in
    (after.settings ≡ settings)
    × (after.page ≡ record before.page { encoding = Some settings.encoding; line_break = settings.line_break; bom_due = false })
WritesPage event empty before after =
    (after.settings ≡ before.settings) × Wrote (render_event before event empty) before.page after.page (Ok tt)

-- an event that is written
pub record WritesEvent (event : Event) (empty : Bool) (before after : MachineState) : Type 0 where
  pub kept : Keeps before after
  pub accepted : refusal_now before event ≡ None
  pub stage : after.stage ≡ (event_stepped before event empty).stage
  pub open_ended : after.open_ended ≡ (event_stepped before event empty).rendered.standing.open_ended
  pub page : WritesPage event empty before after
  pub flushed_whole : flushes event ≡ true → after.page.output ≡ encoded after.page

-- a prefix of an event's piece is written; all of it if memory fails after it
pub record WrotePart (error : yaml_error_t) (event : Event) (empty : Bool) (before after : MachineState) : Type 0 where
  pub accepted : refusal_now before event ≡ None
  pub passed : after.page.error ≡ Some WriteError → error ≡ WriteError
  pub failed : error ≡ WriteError → after.page.error ≡ Some WriteError
  pub answer : Result (Unit {0}) yaml_error_t
  pub wrote : Wrote (render_event before event empty) before.page after.page answer

-- the page after an event that is cut short: unchanged if memory fails before anything is written, or with a prefix of the piece
pub data CutPage (error : yaml_error_t) (event : Event) (empty : Bool) (before after : MachineState) : Type 0 where
  unwritten : error ≡ Memory → after.page ≡ before.page → CutPage error event empty before after
  partly_written : WrotePart error event empty before after → CutPage error event empty before after

-- an event during which the output passes its limit, or memory fails
pub record CutShort (error : yaml_error_t) (event : Event) (empty : Bool) (before after : MachineState) : Type 0 where
  pub kept : Keeps before after
  pub settings : after.settings ≡ before.settings
  pub page : CutPage error event empty before after

-- an event that is refused changes nothing
pub record Refused (error : yaml_error_t) (event : Event) (before after : MachineState) : Type 0 where
  pub kept : after ≡ before
  pub refusal : refusal_now before event ≡ Some error

-- an event was written, cut short, or refused
abbrev pub Processed : Event → (empty : Bool) → MachineState → MachineState → Result (Unit {0}) yaml_error_t → Type 0
Processed event empty before after (Ok _) = WritesEvent event empty before after
Processed event empty before after (Err WriteError) = CutShort WriteError event empty before after
Processed event empty before after (Err Memory) = CutShort Memory event empty before after
Processed event empty before after (Err error) = Refused error event before after
