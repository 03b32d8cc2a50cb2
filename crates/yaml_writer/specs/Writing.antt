-- The events that the calls of a writer give to its emitter.
use Rattle.std.specs.Prelude.{◌≡◌, ◌⊎◌, ℕ, ℤ, Bool, true, false, Option, None, Some, Result}
use Rattle.std.specs.Prelude.{Ok, Err, List, [], ◌∷◌, ◌++◌, ◌||◌, codes, is_none, is_some}
use Rattle.std.specs.Prelude.{if◌then◌else◌}
use Rattle.std.specs.Fmt.{signed_decimal}
use Rattle.std.specs.List.{list_any}
use Rattle.yaml_base.specs.Characters.{Text, is_break}
use Rattle.yaml_base.specs.Event.{Collection, CollectionStyle, Event, ScalarStyle, any_style, plain, single_quoted, literal, stream_start, stream_end}
use Rattle.yaml_base.specs.Event.{document_start, document_end, scalar, sequence_start, sequence_end, mapping_start, mapping_end}
use Rattle.yaml_base.specs.values.JsonNumbers.{JsonNumber, is_json_integer, yaml_number}
use Rattle.yaml_base.specs.Refusal.{IsAccepted}
use Rattle.yaml_base.specs.Seen.{seen_mapping_style, seen_sequence_style}
use Rattle.yaml_base.specs.Settings.{Settings}
use Rattle.yaml_base.specs.values.SurelyText.{is_surely_text}
use Rattle.yaml_base.specs.values.TypedValues.{null_tag, bool_tag, int_tag, bool_text}
use Rattle.yaml_base.specs.declared.errors.yaml_error_t.{yaml_error_t}
use Rattle.yaml_base.specs.declared.errors.yaml_error_t.TheVariants.{ExpectedDocumentEnd, ExpectedNode, Memory}
use Rattle.yaml_emitter.specs.Emits.{Emits}
use Rattle.yaml_emitter.specs.State.{State, bytes_taken}
use Rattle.yaml_emitter.specs.Promises.{IsWritten}
use Rattle.yaml_writer.specs.Times.{Moment, timestamp_text}
use Rattle.yaml_base.specs.declared.kinds.CollectionKind.{CollectionKind}
use Rattle.yaml_base.specs.declared.kinds.CollectionKind.TheVariants.{Mapping, Sequence}
use Rattle.yaml_writer.specs.declared.collections.CollectionStart.{CollectionStart}
use Rattle.yaml_writer.specs.declared.collections.CollectionStart.TheVariants as start
use Rattle.yaml_writer.specs.declared.ends.DocumentEnd.{DocumentEnd}
use Rattle.yaml_writer.specs.declared.ends.DocumentEnd.TheVariants.{Implicit, Explicit}

-- the emitter; whether it writes canonical form; the collections that are open, the innermost last; the anchor and the tag
-- of the next node
pub record WriterState : Type 0 where
  pub emitter : State
  pub canonical : Bool
  pub levels : List CollectionKind
  pub anchor : Option Text
  pub tag : Option Text

-- a writer that goes on with an emitter
abbrev pub writer_over : State → WriterState
writer_over emitter = record { emitter = emitter; canonical = emitter.given.canonical; levels = []; anchor = None; tag = None }

-- ---- the events

-- the start of a document without directives
abbrev pub plain_start : Event
plain_start = document_start (record { version = None; directives = []; implicit = true })

-- The events that a new writer has given.
abbrev pub opening : List Event
opening = stream_start None ∷ plain_start ∷ []

-- an end that isn't written
abbrev pub is_implicit : DocumentEnd → Bool
is_implicit Implicit = true
is_implicit Explicit = false

-- The events that end a stream within a document, by an end that is written or isn't.
abbrev pub closing_by : (implicit : Bool) → List Event
closing_by implicit = document_end implicit ∷ stream_end ∷ []

-- The events that end a stream within a document.
abbrev pub closing : List Event
closing = closing_by true

-- A tag that was given, else this one in canonical form, in which each scalar is in quotes.
abbrev pub tag_or_default : Option Text → Bool → Text → Option Text
tag_or_default (Some tag) canonical own = Some tag
tag_or_default None canonical own = if canonical then Some own else None

-- A scalar with the anchor of the next node; a tag is written if there is one.
abbrev pub scalar_event : WriterState → Option Text → Text → ScalarStyle → Event
scalar_event writer tag value style =
    scalar
    (record { anchor = writer.anchor; tag = tag; value = value; plain_implicit = is_none tag; quoted_implicit = is_none tag; style = style })

-- A plain word, with its type's tag in canonical form.
abbrev pub word_event : WriterState → Text → Text → Event
word_event writer own word = scalar_event writer (tag_or_default writer.tag writer.canonical own) word plain

-- nothing
abbrev pub null_event : WriterState → Event
null_event writer = word_event writer null_tag (codes "null")

-- a boolean
abbrev pub bool_event : WriterState → Bool → Event
bool_event writer value = word_event writer bool_tag (bool_text value)

-- an integer, in decimal digits
abbrev pub int_event : WriterState → ℤ → Event
int_event writer value = word_event writer int_tag (signed_decimal value)

-- the tag of numbers with a point
abbrev pub float_tag : Text
float_tag = codes "tag:yaml.org,2002:float"

-- the tag of a number as it is spelled: an integer has neither a point nor an exponent
abbrev pub number_tag : JsonNumber → Text
number_tag number = if is_json_integer number then int_tag else float_tag

-- a number of JSON, spelled for YAML
abbrev pub number_event : WriterState → JsonNumber → Event
number_event writer number = word_event writer (number_tag number) (yaml_number number)

-- the tag of timestamps
abbrev pub timestamp_tag : Text
timestamp_tag = codes "tag:yaml.org,2002:timestamp"

-- A timestamp. One with a time of day has its tag everywhere, since a `:` keeps it from being plain in flow.
abbrev pub timestamp_event : WriterState → Moment → Event
timestamp_event writer moment =
    scalar_event writer (tag_or_default writer.tag (writer.canonical || is_some moment.time) timestamp_tag) (timestamp_text moment) plain

-- A text of several lines is literal; any other is plain only if it is surely read as a text.
abbrev pub text_style : Text → ScalarStyle
text_style text = if list_any is_break text then literal else (if is_surely_text text then any_style else single_quoted)

-- The style that is asked for, of which any is the writer's own; plain only for a text that is surely read as one, else single quotes.
abbrev pub style_asked : ScalarStyle → Text → ScalarStyle
style_asked any_style text = text_style text
style_asked plain text = if is_surely_text text then plain else single_quoted
style_asked style text = style

-- a text in a style that is asked for
abbrev pub styled_event : WriterState → ScalarStyle → Text → Event
styled_event writer asked text = scalar_event writer writer.tag text (style_asked asked text)

-- a text
abbrev pub text_event : WriterState → Text → Event
text_event writer text = styled_event writer any_style text

-- The start of a collection with the properties of the next node; its tag is written if there is one.
abbrev pub next_collection : WriterState → CollectionStyle → Collection
next_collection writer style = record { anchor = writer.anchor; tag = writer.tag; implicit = is_none writer.tag; style = style }

-- a mapping begins
abbrev pub mapping_event : WriterState → CollectionStyle → Event
mapping_event writer style = mapping_start (next_collection writer style)

-- a sequence begins
abbrev pub sequence_event : WriterState → CollectionStyle → Event
sequence_event writer style = sequence_start (next_collection writer style)

-- the start of a collection of this kind and this style
abbrev pub collection_start : CollectionStart → (CollectionStyle → Collection) → Event
collection_start (start.Mapping style) make = mapping_start (make (seen_mapping_style style))
collection_start (start.Sequence style) make = sequence_start (make (seen_sequence_style style))

-- a collection begins
abbrev pub collection_start_event : WriterState → CollectionStart → Event
collection_start_event writer start = collection_start start (next_collection writer)

-- a collection ends
abbrev pub end_event : CollectionKind → Event
end_event Mapping = mapping_end
end_event Sequence = sequence_end

-- one more collection is open
abbrev pub with_collection : WriterState → CollectionKind → WriterState
with_collection writer kind = record writer { levels = writer.levels ++ kind ∷ [] }

-- ---- the calls

-- an anchor or a tag was given, and its node not yet
abbrev pub awaits_node : WriterState → Bool
awaits_node writer = is_some writer.anchor || is_some writer.tag

-- a node was expected, and nothing changed
abbrev pub NodeExpected : WriterState → Result (Unit {0}) yaml_error_t → WriterState → Type 0
NodeExpected before answer after = (answer ≡ Err ExpectedNode) × (after ≡ before)

-- a new writer: its emitter was given the events that open a stream and a document, nothing is taken, and no collection is open
pub record IsNewWriter (given : Settings) (writer : WriterState) : Type 0 where
  pub settings : writer.emitter.given ≡ given
  pub events : writer.emitter.events ≡ opening
  pub untaken : bytes_taken writer.emitter ≡ []
  pub canonical : writer.canonical ≡ given.canonical
  pub levels : writer.levels ≡ []
  pub anchor : writer.anchor ≡ None
  pub tag : writer.tag ≡ None

-- these events were given to the emitter, and nothing else changes
pub record PassedEvents (before : WriterState) (events : List Event) (answer : Result (Unit {0}) yaml_error_t) (after : WriterState) : Type 0 where
  pub emits : Emits before.emitter events answer after.emitter
  pub rest : after ≡ record before { emitter = after.emitter }

-- the event was given to the emitter; the next node has no properties yet
pub record GaveEvent (before : WriterState) (event : Event) (answer : Result (Unit {0}) yaml_error_t) (after : WriterState) : Type 0 where
  pub emits : Emits before.emitter (event ∷ []) answer after.emitter
  pub canonical : after.canonical ≡ before.canonical
  pub levels : after.levels ≡ before.levels
  pub no_anchor : after.anchor ≡ None
  pub no_tag : after.tag ≡ None

-- the emitter failed, or there was no memory for the event, and nothing changed
abbrev pub Failed : WriterState → Event → yaml_error_t → WriterState → Type 0
Failed before event error after = GaveEvent before event (Err error) after ⊎ ((error ≡ Memory) × (after ≡ before))

-- the event was given, or there was no memory for it, and nothing changed
abbrev pub Gives : WriterState → Event → Result (Unit {0}) yaml_error_t → WriterState → Type 0
Gives before event (Ok done) after = GaveEvent before event (Ok done) after
Gives before event (Err error) after = Failed before event error after

-- so with the start of a collection of this kind, which is open then
abbrev pub Begins : CollectionKind → WriterState → Event → Result (Unit {0}) yaml_error_t → WriterState → Type 0
Begins kind before event (Ok done) after = GaveEvent (with_collection before kind) event (Ok done) after
Begins kind before event (Err error) after =
    GaveEvent (with_collection before kind) event (Err error) after ⊎ ((error ≡ Memory) × (after ≡ before))

-- the innermost collection was ended
pub record EndedCollection (before : WriterState) (answer : Result (Unit {0}) yaml_error_t) (after : WriterState) : Type 0 where
  pub outer : List CollectionKind
  pub kind : CollectionKind
  pub levels : before.levels ≡ outer ++ kind ∷ []
  pub emits : Emits before.emitter (end_event kind ∷ []) answer after.emitter
  pub rest : after ≡ record before { emitter = after.emitter; levels = outer }

-- the innermost collection was ended, or none was open, and nothing changed
abbrev pub EndsInnermost : WriterState → Result (Unit {0}) yaml_error_t → WriterState → Type 0
EndsInnermost before answer after =
    ((before.levels ≡ []) × (answer ≡ Err ExpectedDocumentEnd) × (after ≡ before)) ⊎ EndedCollection before answer after

-- bytes that are the output of a stream
pub record IsStream (given : Settings) (all : List Event) (bytes : List ℕ) : Type 0 where
  pub accepted : IsAccepted given.canonical all
  pub state : State
  pub written : IsWritten given all state
  pub output : bytes ≡ state.page.output

-- The bytes that were taken, and then these, are the output of the emitter's events and the stream's end.
abbrev pub FinishesBy : (implicit : Bool) → State → List ℕ → Type 0
FinishesBy implicit emitter bytes =
    IsStream emitter.given (emitter.events ++ closing_by implicit) (bytes_taken emitter ++ bytes)

-- The same with an end that isn't written.
abbrev pub Finishes : State → List ℕ → Type 0
Finishes = FinishesBy true
