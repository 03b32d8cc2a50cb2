-- The effects of the calls of a walk over a document, by their results.
use Rattle.std.specs.Prelude.{◌≡◌, ℕ, suc, ◌+◌, Bool, Option, None, Some, OnOk, Result, Ok, Err, List, [], ◌∷◌, ◌++◌}
use Rattle.toml_ordered.specs.Data.{TomlNode, TomlNodes, array, table, tables, items_view}
use Rattle.toml_ordered.specs.Keys.{live_view}
use Rattle.toml_ordered.specs.declared.tree.Origin.{Origin}
use Rattle.toml_ordered.specs.declared.tree.Origin.TheVariants.{Header}
use Rattle.yaml_base.specs.Event.{Event, Scalar, scalar}
use Rattle.yaml_base.specs.declared.errors.yaml_error_t.{yaml_error_t}
use Rattle.yaml_base.specs.declared.kinds.CollectionKind.{CollectionKind}
use Rattle.yaml_writer.specs.WasGiven.{WasGiven, start_event}
use Rattle.yaml_writer.specs.Writing.{WriterState}
use Rattle.yaml_toml.specs.Depth.{toml_nesting}
use Rattle.yaml_toml.specs.Events.{toml_events}
use Rattle.yaml_toml.specs.Failing.{GaveFirst}
use Rattle.yaml_toml.specs.Fitting.{FitsAfter, NestsAfter, NodeFits, RestFits, rest_nesting}
use Rattle.yaml_toml.specs.Walk.{GaveSome, GivesScalar, HasNumbers}
use Rattle.yaml_toml.specs.Walk.{KeptAfterStop, KeysHaveNumbers, PendingHaveNumbers, RestHasNumbers, StepsStop, kinds_of, node_size}
use Rattle.yaml_toml.specs.Walk.{pending, pending_size, rest_events, rest_kind, rest_size}
use Rattle.yaml_writer.specs.declared.settings.ValueSettings.{ValueSettings}
use Rattle.yaml_toml.specs.declared.walk.Rest.{Rest}
use Rattle.yaml_toml.specs.declared.walk.Rest.TheVariants as rest
use Rattle.yaml_toml.specs.declared.walk.Stop.{Stop}

-- the state of a walk: the writer, and the rests of the collections that are open
pub record TomlWalk : Type 0 where
  pub writer : WriterState
  pub opened : List Rest

abbrev pub walk_at : WriterState → List Rest → TomlWalk
walk_at writer opened = record { writer = writer; opened = opened }

-- ---- the due part of a document

-- The part that a call has to write: a value; a collection with this rest after its start; the rest of the innermost collection.
pub data Due : Type 0 where
  value_due : TomlNode → Due
  collection_due : Rest → Due
  rest_due : Rest → Due

abbrev pub events_due : (canonical in_flow : Bool) → Due → List Event
events_due canonical in_flow (value_due x) = toml_events canonical in_flow x
events_due canonical in_flow (collection_due r) = start_event in_flow (rest_kind r) ∷ rest_events canonical in_flow r
events_due canonical in_flow (rest_due r) = rest_events canonical in_flow r

-- the collections that are open around it, given the rests of the others
abbrev pub kinds_around : Due → List Rest → List CollectionKind
kinds_around (rest_due r) opened = kinds_of opened ++ rest_kind r ∷ []
kinds_around _ opened = kinds_of opened

abbrev pub DueHasNumbers : Due → Type 0
DueHasNumbers (value_due x) = HasNumbers x
DueHasNumbers (collection_due r) = RestHasNumbers r
DueHasNumbers (rest_due r) = RestHasNumbers r

abbrev pub due_size : Due → ℕ
due_size (value_due x) = node_size x
due_size (collection_due r) = 1 + rest_size r
due_size (rest_due r) = rest_size r

-- True if it nests no deeper than is allowed, and neither do the rests of the others.
abbrev pub DueFits : (depth : ℕ) → Due → List Rest → Type 0
DueFits depth (value_due x) opened = NodeFits depth (toml_nesting x) opened
DueFits depth (collection_due r) opened = NodeFits depth (suc (rest_nesting r)) opened
DueFits depth (rest_due r) opened = RestFits depth (rest_nesting r) opened

-- the events of it and of the rests of the others
abbrev pub all_due : (in_flow : Bool) → Due → TomlWalk → List Event
all_due in_flow due walk = events_due walk.writer.canonical in_flow due ++ pending walk.writer.canonical in_flow walk.opened

-- ---- kinds of values

-- the value that a collection is
abbrev pub value_of_rest : Origin → Rest → TomlNode
value_of_rest origin (rest.Items items) = array (items_view items.now)
value_of_rest origin (rest.Tables done last) = tables (items_view done.now) (live_view last)
value_of_rest origin (rest.Members keys) = table origin (live_view keys)

-- True of a value that is neither an array nor a table.
abbrev pub IsNoCollection : TomlNode → Type 0
IsNoCollection (array items) = ⊥
IsNoCollection (table origin keys) = ⊥
IsNoCollection (tables done last) = ⊥
IsNoCollection _ = Unit {0}

-- True of all of a value but its start, and of `None` for a scalar.
abbrev pub IsRestOf : TomlNode → Option Rest → Type 0
IsRestOf x None = IsNoCollection x
IsRestOf x (Some r) = (origin : Origin) × (x ≡ value_of_rest origin r)

-- a scalar's event was given, or there was an error
pub record WroteScalar (x : TomlNode) (was : WriterState) (result : Result (Unit {0}) yaml_error_t) (now : WriterState) : Type 0 where
  pub content : Scalar
  pub events : (in_flow : Bool) → scalar content ∷ [] ≡ toml_events was.canonical in_flow x
  pub size : 1 ≡ node_size x
  pub nesting : 0 ≡ toml_nesting x
  pub numbers : OnOk result (HasNumbers x)
  pub gives : GivesScalar was content result now

-- ---- a call

-- Some of the due events were given, and the others are those of the rests; the rests fit if and only if all did.
pub record StepGiven (settings : ValueSettings) (due : Due) (before after : TomlWalk) : Type 0 where
  pub written :
      GaveSome settings.depth settings.flow before.writer (all_due settings.flow due before) (kinds_around due before.opened)
      (DueHasNumbers due × PendingHaveNumbers before.opened) (due_size due + pending_size before.opened) after.writer after.opened
  pub nests : FitsAfter settings.depth (DueFits settings.depth due before.opened) (Ok tt) after.opened
  pub kept : KeptAfterStop before.writer (Ok tt) after.writer

-- The first of the due events were given, and no more; after `TooDeep` the due part nests deeper than is allowed.
pub record StepStopped (settings : ValueSettings) (due : Due) (before : TomlWalk) (stop : Stop) (after : TomlWalk) : Type 0 where
  pub nests : FitsAfter settings.depth (DueFits settings.depth due before.opened) (Err stop) after.opened
  pub stopped : StepsStop settings.depth before.writer (all_due settings.flow due before) (kinds_around due before.opened) after.writer
  pub kept : KeptAfterStop before.writer (Err stop) after.writer

abbrev pub TomlStep : ValueSettings → Due → TomlWalk → Result (Unit {0}) Stop → TomlWalk → Type 0
TomlStep settings due before (Ok done) after = StepGiven settings due before after
TomlStep settings due before (Err stop) after = StepStopped settings due before stop after

-- ---- a document

-- the events of the root table were given, and it nests no deeper than is allowed
pub record RootGiven (settings : ValueSettings) (root : TomlNodes) (was now : WriterState) : Type 0 where
  pub written : WasGiven was (toml_events was.canonical settings.flow (table Header root)) now
  pub numbers : KeysHaveNumbers root
  pub nests : NestsAfter settings.depth root (Ok tt)
  pub kept : KeptAfterStop was (Ok tt) now

-- the first of them were given, and no more; after `TooDeep` it nests deeper
pub record RootStopped (settings : ValueSettings) (root : TomlNodes) (was : WriterState) (stop : Stop) (now : WriterState) : Type 0 where
  pub nests : NestsAfter settings.depth root (Err stop)
  pub stopped : GaveFirst settings.depth (toml_events was.canonical settings.flow (table Header root)) was now
  pub kept : KeptAfterStop was (Err stop) now

abbrev pub RootStep : ValueSettings → TomlNodes → WriterState → Result (Unit {0}) Stop → WriterState → Type 0
RootStep settings root was (Ok done) now = RootGiven settings root was now
RootStep settings root was (Err stop) now = RootStopped settings root was stop now
