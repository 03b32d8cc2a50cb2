-- The form and the depth of the collections of a document.
use Rattle.std.specs.Prelude.{◌≡◌, ℕ, ◌≤◌, Bool, false, List, [], length, take}
use Rattle.yaml_base.specs.Event.{Event}
use Rattle.yaml_base.specs.declared.kinds.CollectionKind.{CollectionKind}
use Rattle.yaml_base.specs.declared.kinds.CollectionKind.TheVariants.{Mapping, Sequence}
use Rattle.yaml_writer.specs.Contents.{style_of}
use Rattle.yaml_writer.specs.WasGiven.{levels_after}
use Rattle.yaml_writer.specs.Writing.{WriterState, mapping_event, sequence_event}
use Rattle.yaml_writer.specs.declared.settings.ValueSettings.{ValueSettings}

-- whether collections are written in flow, else in blocks; and how many may be open at once
pub record Form : Type 0 where
  pub flow : Bool
  pub depth : ℕ

-- the form that is asked for
abbrev pub form_of : ValueSettings → Form
form_of values = record { flow = values.flow; depth = values.depth }

-- the form for values, if no other is asked for
abbrev pub form_for_values : Form
form_for_values = record { flow = false; depth = 1000 }

-- the start of a collection of this kind, with the properties of the next node
abbrev pub begin_event : (in_flow : Bool) → CollectionKind → WriterState → Event
begin_event in_flow Mapping writer = mapping_event writer (style_of in_flow)
begin_event in_flow Sequence writer = sequence_event writer (style_of in_flow)

-- after any number of these events, at most so many of the collections that they begin are open
abbrev pub NestsWithin : (depth : ℕ) → List Event → Type 0
NestsWithin depth events = (count : ℕ) → length (levels_after (take count events) []) ≤ depth
