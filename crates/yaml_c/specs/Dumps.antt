-- The call that gives an emitter a document's root, of an array of nodes.
use Rattle.std.specs.Prelude.{◌≡◌, true, false, Option, None, Some, List, Result, Ok, Err}
use Rattle.yaml_base.specs.Event.{Event}
use Rattle.yaml_base.specs.declared.errors.yaml_error_t.{yaml_error_t}
use Rattle.yaml_dump.specs.Dumps.{EmitsEach}
use Rattle.yaml_c.specs.Kept.{lasting_error}
use Rattle.yaml_c.specs.Places.{is_root}
use Rattle.yaml_c.specs.Values.{Fails, Opens}
use Rattle.yaml_c.specs.declared.kept.Kept.{Kept}
use Rattle.yaml_c.specs.declared.place.Spot.TheVariants as spots
use Rattle.yaml_c.specs.declared.values.ValueGiving.{ValueGiving}
use Rattle.yaml_c.specs.declared.values.ValueGiving.TheVariants.{Answered, Misplaced, NoMemory, Unreadable}

-- True if a document's root was given where one may be, in a document that was opened for it if it is the first: these events, up to the
-- first whose call returned an error.
pub record GaveRoot (events : List Event) (answer : Result (Unit {0}) yaml_error_t) (before after : Kept) : Type 0 where
  pub sound : lasting_error before.emitter ≡ None
  pub may : is_root before.place.spot ≡ true
  pub opened : Kept
  pub opens : Opens before opened
  pub emits : EmitsEach opened.emitter events answer after.emitter
  pub place : after.place ≡ record opened.place { spot = spots.Done }

-- The same of nodes that have a reading.
abbrev pub GaveReadRoot : Option (List Event) → Result (Unit {0}) yaml_error_t → Kept → Kept → Type 0
GaveReadRoot None answer before after = ⊥
GaveReadRoot (Some events) answer before after = GaveRoot events answer before after

-- True if no root was given, and nothing changed.
pub record GaveNoRoot (before after : Kept) : Type 0 where
  pub sound : lasting_error before.emitter ≡ None
  pub may : is_root before.place.spot ≡ true
  pub same : after ≡ before

-- True of the outcome of a call that gives a root. If no root may be there, the nodes have no reading, or memory ran out before an event was
-- given, nothing changes.
abbrev pub GaveDump : Option (List Event) → ValueGiving → Kept → Kept → Type 0
GaveDump read (Answered (Ok done)) before after = GaveReadRoot read (Ok done) before after
GaveDump read (Answered (Err error)) before after = Fails (GaveReadRoot read (Err error) before after) error before after
GaveDump read Misplaced before after = (lasting_error before.emitter ≡ None) × (is_root before.place.spot ≡ false) × (after ≡ before)
GaveDump read Unreadable before after = (read ≡ None) × GaveNoRoot before after
GaveDump read NoMemory before after = GaveNoRoot before after
