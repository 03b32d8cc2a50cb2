-- Documents, as they are written and when they are finished.
use Rattle.std.specs.Io.KnownBytes.{Appends}
use Rattle.std.specs.Prelude.{◌≡◌, ◌⊎◌, ℕ, ℤ, Bool, true, Option, Result, List, [], ◌++◌}
use Rattle.std.specs.List.{All}
use Rattle.yaml_base.specs.Characters.{Text}
use Rattle.yaml_base.specs.Event.{Event}
use Rattle.yaml_base.specs.declared.errors.yaml_error_t.{yaml_error_t}
use Rattle.yaml_base.specs.values.JsonNumbers.{JsonNumber, is_json_number}
use Rattle.yaml_base.specs.Settings.{Settings}
use Rattle.yaml_base.specs.Sinks.{AppendsFirst}
use Rattle.yaml_pen.specs.Wrote.{Grows}
use Rattle.yaml_emitter.specs.Emits.{IsPromised}
use Rattle.yaml_emitter.specs.State.{State}
use Rattle.yaml_writer.specs.Binary.{bytes_event}
use Rattle.yaml_writer.specs.Floats.{special_event}
use Rattle.yaml_writer.specs.WasGiven.{EmitsTaking}
use Rattle.yaml_writer.specs.Writing.{WriterState, Gives, IsStream, bool_event, closing, end_event, int_event, null_event}
use Rattle.yaml_writer.specs.Writing.{number_event}
use Rattle.yaml_writer.specs.Writing.{opening, text_event}
use Rattle.yaml_writer.specs.declared.floats.SpecialFloat.{SpecialFloat}
use Rattle.yaml_base.specs.declared.kinds.CollectionKind.{CollectionKind}
use Rattle.yaml_serde.specs.Forms.{Form, NestsWithin, begin_event}

-- a scalar that a call of a writer gives, with the writer's properties of the next node: so a number is spelled for both
-- schemas, and a text is plain only if both read it as a text
pub data IsScalarCall : Event → Type 0 where
  null_call : (writer : WriterState) → IsScalarCall (null_event writer)
  bool_call : (writer : WriterState) (value : Bool) → IsScalarCall (bool_event writer value)
  int_call : (writer : WriterState) (value : ℤ) → IsScalarCall (int_event writer value)
  number_call : (writer : WriterState) (number : JsonNumber) → is_json_number number ≡ true → IsScalarCall (number_event writer number)
  special_call : (writer : WriterState) (value : SpecialFloat) → IsScalarCall (special_event writer value)
  bytes_call : (writer : WriterState) (value : List ℕ) → IsScalarCall (bytes_event writer value)
  text_call : (writer : WriterState) (text : Text) → IsScalarCall (text_event writer text)

-- an event that a call of a writer gives: a scalar, the start of a collection, in flow or in a block as is asked for, or an end
pub data IsWriterEvent (in_flow : Bool) : Event → Type 0 where
  scalar_call : {event : Event} → IsScalarCall event → IsWriterEvent in_flow event
  begin_call : (kind : CollectionKind) (writer : WriterState) → IsWriterEvent in_flow (begin_event in_flow kind writer)
  end_call : (kind : CollectionKind) → IsWriterEvent in_flow (end_event kind)

-- the events of some calls, by a form: collections are in its style, and no more are open at once than it allows
abbrev pub AreCalls : Form → List Event → Type 0
AreCalls form events = All (IsWriterEvent form.flow) events × NestsWithin form.depth events

-- a call gives its scalar, or there is no memory for it
abbrev pub GivesCall : WriterState → Result (Unit {0}) yaml_error_t → WriterState → Type 0
GivesCall before answer after = (event : Event) × IsScalarCall event × Gives before event answer after

-- bytes are the output of a stream that begins and ends a document round the events of some calls: well-formed, written whole
-- under these settings and in this form, and read back as those events
abbrev pub IsDocument : Settings → Form → List ℕ → Type 0
IsDocument given form bytes = ∥ ((events : List Event) × AreCalls form events × IsStream given (opening ++ events ++ closing) bytes) ∥₁

-- the known bytes of a sink grow by those of a document
abbrev pub AppendsDocument : Settings → Form → Option (List ℕ) → Option (List ℕ) → Type 0
AppendsDocument given form before after = ∥ ((bytes : List ℕ) × Appends before after bytes × IsDocument given form bytes) ∥₁

-- the output of an emitter that was given the start of a stream of one document, and the events of some calls
pub record IsPartial (given : Settings) (form : Form) (output : List ℕ) : Type 0 where
  pub events : List Event
  pub are : AreCalls form events
  pub state : State
  pub settings : state.given ≡ given
  pub began : state.events ≡ opening ++ events
  pub promised : IsPromised state
  pub output_is : output ≡ state.page.output

-- the known bytes of a sink grow by a beginning of a document, or of what is written of one before its end; or by nothing
abbrev pub AppendsBeginning : Settings → Form → Option (List ℕ) → Option (List ℕ) → Type 0
AppendsBeginning given form before after =
    ∥ ((bytes : List ℕ) × AppendsFirst before after bytes × ((bytes ≡ []) ⊎ (IsPartial given form bytes ⊎ IsDocument given form bytes))) ∥₁

-- an emitter was given the events of some calls more, and these bytes of its output were taken more; what was written before stays
pub record GaveEvents (form : Form) (before : State) (bytes : List ℕ) (after : State) : Type 0 where
  pub events : List Event
  pub are : AreCalls form events
  pub emits : EmitsTaking before events bytes after
  pub grows : Grows before.page after.page

-- an emitter was given the events of some calls more, and nothing more was taken
abbrev pub GivesEvents : Form → State → State → Type 0
GivesEvents form before after = ∥ GaveEvents form before [] after ∥₁

-- the known bytes of a sink grow by these of an emitter, which was given the events of some calls more
abbrev pub SendsEvents : Form → Option (List ℕ) → State → Option (List ℕ) → State → Type 0
SendsEvents form held before now after = ∥ ((bytes : List ℕ) × Appends held now bytes × GaveEvents form before bytes after) ∥₁
