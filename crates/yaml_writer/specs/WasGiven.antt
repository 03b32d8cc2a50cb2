-- The events that several calls gave to a writer, whatever its emitter's error is, and the bytes of its output that were taken meanwhile.
use Rattle.std.specs.Prelude.{◌≡◌, ℕ, ◌-◌, Bool, true, Option, None, List, [], ◌∷◌, ◌++◌, length, take}
use Rattle.std.specs.Io.KnownBytes.{Appends}
use Rattle.yaml_base.specs.Event.{Event, document_end, mapping_end, mapping_start, sequence_end, sequence_start}
use Rattle.yaml_base.specs.Sinks.{AppendsFirst}
use Rattle.yaml_base.specs.declared.kinds.CollectionKind.{CollectionKind}
use Rattle.yaml_base.specs.declared.kinds.CollectionKind.TheVariants.{Mapping, Sequence}
use Rattle.yaml_pen.specs.Page.{result_of_error}
use Rattle.yaml_emitter.specs.Emits.{Emits}
use Rattle.yaml_emitter.specs.State.{State, bytes_taken}
use Rattle.yaml_writer.specs.Contents.{collection_in}
use Rattle.yaml_writer.specs.Writing.{WriterState, plain_start}

-- the next node has no anchor and no tag
abbrev pub IsBare : WriterState → Type 0
IsBare writer = (writer.anchor ≡ None) × (writer.tag ≡ None)

-- These events were given to the writer's emitter after those before. Then these collections are open, the writer's form is unchanged, and
-- the next node has no anchor and no tag.
pub record GivenLeaving (before : WriterState) (events : List Event) (opened : List CollectionKind) (after : WriterState) : Type 0 where
  pub emits : Emits before.emitter events (result_of_error after.emitter.error) after.emitter
  pub canonical : after.canonical ≡ before.canonical
  pub levels : after.levels ≡ opened
  pub bare : IsBare after

-- the same are open as before
abbrev pub WasGiven : WriterState → List Event → WriterState → Type 0
WasGiven before events after = GivenLeaving before events before.levels after

-- ---- the collections that some events leave open

-- The collections that are open after an event, by those that are open before it, the innermost last.
abbrev pub levels_after_event : Event → List CollectionKind → List CollectionKind
levels_after_event (sequence_start start) levels = levels ++ Sequence ∷ []
levels_after_event (mapping_start start) levels = levels ++ Mapping ∷ []
levels_after_event sequence_end levels = take (length levels - 1) levels
levels_after_event mapping_end levels = take (length levels - 1) levels
levels_after_event _ levels = levels

-- The collections that are open after some events, by those that are open before them.
abbrev pub levels_after : List Event → List CollectionKind → List CollectionKind
levels_after [] levels = levels
levels_after (event ∷ events) levels = levels_after events (levels_after_event event levels)

-- These events were given to the writer's emitter, after those before, whatever its error is. The writer's form is unchanged, those
-- collections are open that the events leave open, and the next node has no anchor and no tag.
abbrev pub GaveEvents : WriterState → List Event → WriterState → Type 0
GaveEvents before events after = GivenLeaving before events (levels_after events before.levels) after

-- A writer can be used further after these events: its form is unchanged, those collections are open that the events leave open, and the
-- next node has no anchor and no tag.
pub record StaysUsable (before : WriterState) (events : List Event) (after : WriterState) : Type 0 where
  pub canonical : after.canonical ≡ before.canonical
  pub levels : after.levels ≡ levels_after events before.levels
  pub bare : IsBare after

-- ---- one event

-- one event was given
abbrev pub WroteEvent : WriterState → Event → WriterState → Type 0
WroteEvent before event after = WasGiven before (event ∷ []) after

-- the event with which a collection begins
abbrev pub start_event : (in_flow : Bool) → CollectionKind → Event
start_event in_flow Sequence = sequence_start (collection_in in_flow)
start_event in_flow Mapping = mapping_start (collection_in in_flow)

-- The events between two documents.
abbrev pub between : List Event
between = document_end true ∷ plain_start ∷ []

-- ---- events given, and bytes taken

-- The emitter was given these events after those before, and these bytes of its output were taken after those before.
pub record EmitsTaking (before : State) (events : List Event) (bytes : List ℕ) (after : State) : Type 0 where
  pub given : after.given ≡ before.given
  pub appended : after.events ≡ before.events ++ events
  pub taken : bytes_taken after ≡ bytes_taken before ++ bytes

-- these events were given, and these bytes were taken; the next node has no anchor and no tag
pub record WroteTaking (before : WriterState) (events : List Event) (bytes : List ℕ) (after : WriterState) : Type 0 where
  pub emits : EmitsTaking before.emitter events bytes after.emitter
  pub canonical : after.canonical ≡ before.canonical
  pub levels : after.levels ≡ before.levels
  pub bare : IsBare after

-- an emitter without an error, whose output is all taken
abbrev pub IsAllTaken : State → Type 0
IsAllTaken emitter = (emitter.error ≡ None) × (emitter.page.taken ≡ length emitter.page.output)

-- the next document was begun, and the sink was given all that was written before
pub record BeginsNext (before : WriterState) (held : Option (List ℕ)) (after : WriterState) (holds : Option (List ℕ)) : Type 0 where
  pub bytes : List ℕ
  pub sends : Appends held holds bytes
  pub wrote : WroteTaking before between bytes after
  pub whole : IsAllTaken after.emitter

-- a writer was given the start of the next document, and the sink a beginning of all that was written before; nothing was taken
pub record NextUnsent (before : WriterState) (held : Option (List ℕ)) (after : WriterState) (holds : Option (List ℕ)) : Type 0 where
  pub offered : List ℕ
  pub sends : AppendsFirst held holds offered
  pub gave : GaveEvents before between after
  pub then : State
  pub wrote : EmitsTaking before.emitter between offered then
  pub whole : IsAllTaken then
