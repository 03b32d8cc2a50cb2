-- The calls that give an emitter a value, begin or end a collection, or end a document.
use Rattle.std.specs.Prelude.{◌≡◌, ℤ, pos, Bool, true, false, Option, None, Some, List, [], ◌∷◌, Result, Ok, Err, if◌then◌else◌}
use Rattle.std.specs.Float.{binary64}
use Rattle.std.specs.Float.Ieee.{Float, nan, inf, fin}
use Rattle.std.specs.Str.{chars}
use Rattle.yaml_base.specs.Characters.{Text}
use Rattle.yaml_base.specs.Event.{CollectionStyle, Event, document_end}
use Rattle.yaml_base.specs.declared.errors.yaml_error_t.{yaml_error_t}
use Rattle.yaml_base.specs.declared.kinds.CollectionKind.{CollectionKind}
use Rattle.yaml_base.specs.declared.kinds.CollectionKind.TheVariants.{Mapping, Sequence}
use Rattle.yaml_base.specs.values.JsonNumbers.{JsonNumber}
use Rattle.yaml_emitter.specs.Emits.{Emits}
use Rattle.yaml_emitter.specs.State.{State}
use Rattle.yaml_pen.specs.Page.{result_of_error}
use Rattle.yaml_writer.specs.Floats.{GivesFloat, ReadsAsFloat, special_event}
use Rattle.yaml_writer.specs.Writing.{Gives, WriterState, bool_event, end_event, int_event, mapping_event, null_event, number_event, opening}
use Rattle.yaml_writer.specs.Writing.{plain_start, sequence_event, text_event, writer_over}
use Rattle.yaml_writer.specs.declared.floats.SpecialFloat.TheVariants.{Infinity, NegativeInfinity, NotANumber}
use Rattle.yaml_c.specs.Answers.{nothing_reported}
use Rattle.yaml_c.specs.Kept.{TellsError, lasting_error}
use Rattle.yaml_c.specs.Places.{EndsInner, MayNotEnd, Place, after_node, is_done, is_start, within}
use Rattle.yaml_c.specs.declared.kept.Kept.{Kept}
use Rattle.yaml_c.specs.declared.place.Spot.{Spot}
use Rattle.yaml_c.specs.declared.place.Spot.TheVariants as spots
use Rattle.yaml_c.specs.declared.results.CallResult.{CallResult}
use Rattle.yaml_c.specs.declared.values.Value.{Value}
use Rattle.yaml_c.specs.declared.values.Value.TheVariants as values
use Rattle.yaml_c.specs.declared.values.ValueGiving.{ValueGiving}
use Rattle.yaml_c.specs.declared.values.ValueGiving.TheVariants.{Answered, Misplaced, NoMemory, Unreadable}

-- ---- the events of values, which are those of `Writer`

-- True of the event of a float: a number that reads as it, or the word of one that is no number.
abbrev pub IsFloatEvent : WriterState → Float → Event → Type 0
IsFloatEvent writer nan event = event ≡ special_event writer NotANumber
IsFloatEvent writer (inf negative) event = event ≡ special_event writer (if negative then NegativeInfinity else Infinity)
IsFloatEvent writer (fin negative significand exponent) event =
    (number : JsonNumber) × ReadsAsFloat binary64 (fin negative significand exponent) number × (event ≡ number_event writer number)

-- True of the event of a value.
abbrev pub IsEventOf : Value → WriterState → Event → Type 0
IsEventOf values.Null writer event = event ≡ null_event writer
IsEventOf (values.Bool value) writer event = event ≡ bool_event writer value
IsEventOf (values.Int value) writer event = event ≡ int_event writer value
IsEventOf (values.Unsigned value) writer event = event ≡ int_event writer (pos value)
IsEventOf (values.Double value) writer event = IsFloatEvent writer value event
IsEventOf (values.Text text) writer event = event ≡ text_event writer (chars text.now)

-- The effect of a writer's call for a value.
abbrev pub WritesValue : Value → WriterState → Result (Unit {0}) yaml_error_t → WriterState → Type 0
WritesValue values.Null before answer after = Gives before (null_event before) answer after
WritesValue (values.Bool value) before answer after = Gives before (bool_event before value) answer after
WritesValue (values.Int value) before answer after = Gives before (int_event before value) answer after
WritesValue (values.Unsigned value) before answer after = Gives before (int_event before (pos value)) answer after
WritesValue (values.Double value) before answer after = GivesFloat binary64 before value answer after
WritesValue (values.Text text) before answer after = Gives before (text_event before (chars text.now)) answer after

-- True if an emitter was given the event of a value, with this answer, or nothing, since memory ran out.
abbrev pub GaveByWriter : Value → Option (Result (Unit {0}) yaml_error_t) → State → State → Type 0
GaveByWriter value (Some answer) before after = (event : Event) × IsEventOf value (writer_over before) event × Emits before (event ∷ []) answer after
GaveByWriter value None before after = after ≡ before

-- ---- the calls

-- True if the stream and its first document were opened, if that is needed.
abbrev pub OpensIf : (needed : Bool) → Kept → Kept → Type 0
OpensIf true before after =
    Emits before.emitter opening (result_of_error after.emitter.error) after.emitter × (after.place ≡ record before.place { spot = spots.Root })
OpensIf false before after = after ≡ before

abbrev pub Opens : Kept → Kept → Type 0
Opens before after = OpensIf (is_start before.place.spot) before after

-- True if a node was given where one may be, in a document that was opened for it if it is the first; it leaves this place.
pub record GaveNode (is : State → Event → Type 0) (leaves : Spot → Place → Place) (before after : Kept) : Type 0 where
  pub sound : lasting_error before.emitter ≡ None
  pub opened : Kept
  pub opens : Opens before opened
  pub next : Spot
  pub may : after_node before.place.spot ≡ Some next
  pub event : Event
  pub is_event : is opened.emitter event
  pub emits : Emits opened.emitter (event ∷ []) (result_of_error after.emitter.error) after.emitter
  pub place : after.place ≡ leaves next opened.place

-- Why a call failed: the emitter had failed before, and nothing changed; or it failed as the document was opened; or in the call itself.
pub data Fails (gave : Type 0) (error : yaml_error_t) (before after : Kept) : Type 0 where
  failed_before : lasting_error before.emitter ≡ Some error → after ≡ before → Fails gave error before after
  failed_opening : Opens before after → after.emitter.error ≡ Some error → Fails gave error before after
  failed_within : gave → after.emitter.error ≡ Some error → Fails gave error before after

-- True of the outcome of a call that gives such a node. If no node may be there, nothing changes. If memory ran out, only the document was
-- opened.
abbrev pub GaveSuch : (is : State → Event → Type 0) → (leaves : Spot → Place → Place) → ValueGiving → Kept → Kept → Type 0
GaveSuch is leaves (Answered (Ok done)) before after = GaveNode is leaves before after × (after.emitter.error ≡ None)
GaveSuch is leaves (Answered (Err error)) before after = Fails (GaveNode is leaves before after) error before after
GaveSuch is leaves Misplaced before after = (lasting_error before.emitter ≡ None) × (after_node before.place.spot ≡ None) × (after ≡ before)
GaveSuch is leaves NoMemory before after = (lasting_error before.emitter ≡ None) × Opens before after
GaveSuch is leaves Unreadable before after = ⊥

-- A value is a node; the place after it is the next one.
abbrev pub leaves_next : Spot → Place → Place
leaves_next next place = record place { spot = next }

abbrev pub GaveValue : (is : State → Event → Type 0) → ValueGiving → Kept → Kept → Type 0
GaveValue is giving before after = GaveSuch is leaves_next giving before after

abbrev pub GaveScalar : Value → ValueGiving → Kept → Kept → Type 0
GaveScalar value giving before after = GaveValue (λ state. IsEventOf value (writer_over state)) giving before after

-- The same of bytes, which are a text if they are UTF-8.
abbrev pub GaveText : Option Text → ValueGiving → Kept → Kept → Type 0
GaveText None giving before after = (giving ≡ Unreadable) × (after ≡ before)
GaveText (Some text) giving before after = GaveValue (λ state event. event ≡ text_event (writer_over state) text) giving before after

-- The same of a collection that begins.
abbrev pub GaveStart : CollectionKind → (is : State → Event → Type 0) → ValueGiving → Kept → Kept → Type 0
GaveStart kind is giving before after = GaveSuch is (within kind) giving before after

-- The same of a sequence, and of a mapping, in a style that may have no reading.
abbrev pub GaveSequence : Option CollectionStyle → ValueGiving → Kept → Kept → Type 0
GaveSequence None giving before after = (giving ≡ Unreadable) × (after ≡ before)
GaveSequence (Some style) giving before after =
    GaveStart Sequence (λ state event. event ≡ sequence_event (writer_over state) style) giving before after

abbrev pub GaveMapping : Option CollectionStyle → ValueGiving → Kept → Kept → Type 0
GaveMapping None giving before after = (giving ≡ Unreadable) × (after ≡ before)
GaveMapping (Some style) giving before after =
    GaveStart Mapping (λ state event. event ≡ mapping_event (writer_over state) style) giving before after

-- True if the innermost collection was ended.
pub record EndedInner (before after : Kept) : Type 0 where
  pub sound : lasting_error before.emitter ≡ None
  pub kind : CollectionKind
  pub ends : EndsInner before.place kind after.place
  pub emits : Emits before.emitter (end_event kind ∷ []) (result_of_error after.emitter.error) after.emitter

-- True of the outcome of a call that ends the innermost collection. If none may end, nothing changes.
abbrev pub GaveEnd : ValueGiving → Kept → Kept → Type 0
GaveEnd (Answered (Ok done)) before after = EndedInner before after × (after.emitter.error ≡ None)
GaveEnd (Answered (Err error)) before after = Fails (EndedInner before after) error before after
GaveEnd Misplaced before after = (lasting_error before.emitter ≡ None) × MayNotEnd before.place × (after ≡ before)
GaveEnd giving before after = ⊥

-- True if a document whose root is there was ended by these events, and the next value is at this spot.
pub record EndedDocument (events : List Event) (next : Spot) (before after : Kept) : Type 0 where
  pub sound : lasting_error before.emitter ≡ None
  pub may : is_done before.place.spot ≡ true
  pub emits : Emits before.emitter events (result_of_error after.emitter.error) after.emitter
  pub place : after.place ≡ record before.place { spot = next }

-- True of the outcome of a call that ends a document so. If its root isn't there, nothing changes.
abbrev pub GaveDocumentEnd : List Event → (next : Spot) → ValueGiving → Kept → Kept → Type 0
GaveDocumentEnd events next (Answered (Ok done)) before after = EndedDocument events next before after × (after.emitter.error ≡ None)
GaveDocumentEnd events next (Answered (Err error)) before after = Fails (EndedDocument events next before after) error before after
GaveDocumentEnd events next Misplaced before after =
    (lasting_error before.emitter ≡ None) × (is_done before.place.spot ≡ false) × (after ≡ before)
GaveDocumentEnd events next giving before after = ⊥

-- The events that end a document and begin another.
abbrev pub next_document : List Event
next_document = document_end true ∷ plain_start ∷ []

-- ---- the results

-- True if the status and the report are those of the outcome: 0 if all was given; 3 or 1 by the emitter's error; 13 if the call has no place,
-- 8 if the text or the style has no reading; 3 and no error if memory ran out before an event was given.
abbrev pub TellsValue : ValueGiving → (status : ℤ) → CallResult → Type 0
TellsValue (Answered (Ok done)) status report = TellsError None status report
TellsValue (Answered (Err error)) status report = TellsError (Some error) status report
TellsValue Misplaced status report = (status ≡ pos 13) × (report ≡ nothing_reported)
TellsValue Unreadable status report = (status ≡ pos 8) × (report ≡ nothing_reported)
TellsValue NoMemory status report = (status ≡ pos 3) × (report ≡ nothing_reported)

-- True if a call had such an outcome, and told it.
abbrev pub Tells : (ValueGiving → Kept → Kept → Type 0) → (status : ℤ) → CallResult → Kept → Kept → Type 0
Tells gave status report before after = (giving : ValueGiving) × gave giving before after × TellsValue giving status report
