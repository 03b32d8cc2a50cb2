-- An emitter between two calls, and the effect of a call that gives events.
use Rattle.std.specs.Result.{is_ok}
use Rattle.std.specs.Prelude.{◌≡◌, ◌⊎◌, ◌≤◌, ◌||◌, Bool, true, false, Option, None, IsSome, is_some, IsOk, Result, List, [], ◌∷◌, ◌++◌, length}
use Rattle.yaml_base.specs.Event.{Event}
use Rattle.yaml_base.specs.Ready.{written}
use Rattle.yaml_base.specs.declared.errors.yaml_error_t.{yaml_error_t}
use Rattle.yaml_pen.specs.Page.{result_of_error}
use Rattle.yaml_pen.specs.Wrote.{Grows}
use Rattle.yaml_emitter.specs.EmitsEvent.{CopyFailed}
use Rattle.yaml_emitter.specs.Moves.{started_by}
use Rattle.yaml_emitter.specs.Promises.{HasAllBytes, Promised}
use Rattle.yaml_emitter.specs.StandsAfter.{StandsAfter}
use Rattle.yaml_emitter.specs.State.{GivenEvent, State, KeepsSet, bytes_taken}

-- an emitter's state is the one after the events that it was given; none is given before an output is set; of the output no more
-- bytes are taken than it has
pub record Keeps (emitter : State) : Type 0 where
  pub stands : StandsAfter emitter.given emitter.events emitter
  pub unstarted : emitter.started ≡ false → emitter.events ≡ []
  pub unset : emitter.has_output ≡ false → emitter.events ≡ []
  pub taken : emitter.page.taken ≤ length emitter.page.output

-- all that a caller may rely on
abbrev pub IsPromised : State → Type 0
IsPromised emitter = Promised emitter.given emitter.events emitter

-- all bytes of the events that are written are flushed
abbrev pub IsFlushed : State → Type 0
IsFlushed emitter = HasAllBytes emitter.given emitter.events emitter

-- an emitter was given these events: its text and its output only grow, the caller's settings stay, and so do the bytes that were
-- taken; the answer is its error
pub record Emits (before : State) (events : List GivenEvent) (answer : Result (Unit {0}) yaml_error_t) (after : State) : Type 0 where
  pub set : KeepsSet (record before { events = before.events ++ events; started = started_by before.started events }) after
  pub grows : Grows before.page after.page
  pub taken : bytes_taken after ≡ bytes_taken before
  pub answered : answer ≡ result_of_error after.error

-- an emitter took an event: nothing fails if no event becomes ready, and after an error it is only counted
pub record TakesEvent (before : State) (event : Event) (answer : Result (Unit {0}) yaml_error_t) (after : State) : Type 0 where
  pub emits : Emits before (event ∷ []) answer after
  pub unready : before.error ≡ None → written after.events ≡ written before.events → IsOk answer
  pub kept : IsSome before.error → after ≡ record before { events = before.events ++ event ∷ []; started = true }

-- an emitter took a scalar, or had no memory to copy it
abbrev pub TakesScalar : State → Event → Result (Unit {0}) yaml_error_t → State → Type 0
TakesScalar before event answer after = TakesEvent before event answer after ⊎ CopyFailed before answer after

-- true if a scalar was taken whose call had this answer, and after which the emitter has this error
abbrev pub is_taken : Result (Unit {0}) yaml_error_t → Option yaml_error_t → Bool
is_taken answer error = is_ok answer || is_some error

-- a scalar was not taken exactly if its call failed and the emitter has no error
pub record UntakenIsTold : Type 0 where
  pub taken : (before : State) (event : Event) (answer : Result (Unit {0}) yaml_error_t) (after : State) → TakesScalar before event answer after
      → is_taken answer after.error ≡ true → TakesEvent before event answer after
  pub untaken : (before : State) (event : Event) (answer : Result (Unit {0}) yaml_error_t) (after : State) → TakesScalar before event answer after
      → is_taken answer after.error ≡ false → CopyFailed before answer after
