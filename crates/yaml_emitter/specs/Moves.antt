-- The effect within the emitter of calls that give events, whatever was given before.
use Rattle.std.specs.Prelude.{◌≡◌, Bool, true, Result, List, [], ◌∷◌, ◌++◌}
use Rattle.yaml_base.specs.Settings.{Settings}
use Rattle.yaml_base.specs.Event.{Event}
use Rattle.yaml_base.specs.declared.errors.yaml_error_t.{yaml_error_t}
use Rattle.yaml_pen.specs.Page.{result_of_error}
use Rattle.yaml_pen.specs.Wrote.{Grows}
use Rattle.yaml_emitter.specs.State.{State, KeepsSet}
use Rattle.yaml_emitter.specs.StandsAfter.{StandsAfter}

-- true if an emitter has started after these events
abbrev pub started_by : Bool → List Event → Bool
started_by started [] = started
started_by started (event ∷ rest) = true

-- for all events given before, the emitter's state is the one after those events and these; its text and its output only grow,
-- the caller's settings stay, and the answer is the emitter's error
pub record Moves (before : State) (events : List Event) (answer : Result (Unit {0}) yaml_error_t) (after : State) : Type 0 where
  pub stands : (given : Settings) (all : List Event) → StandsAfter given all before → StandsAfter given (all ++ events) after
  pub grows : Grows before.page after.page
  pub set : KeepsSet (record before { events = before.events ++ events; started = started_by before.started events }) after
  pub answered : answer ≡ result_of_error after.error
