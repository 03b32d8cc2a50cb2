-- The effect of a call that gives an event, whether it owns the event or borrows it.
use Rattle.std.specs.Prelude.{◌≡◌, ◌⊎◌, ◌≤◌, ℕ, true, false, None, Some, IsSome, Result, Ok, Err, IsOk, List, [], ◌∷◌, ◌++◌, drop, length}
use Rattle.yaml_base.specs.Settings.{Settings}
use Rattle.yaml_base.specs.Event.{Event}
use Rattle.yaml_base.specs.Ready.{written}
use Rattle.yaml_base.specs.declared.errors.yaml_error_t.{yaml_error_t}
use Rattle.yaml_base.specs.declared.errors.yaml_error_t.TheVariants.{Memory}
use Rattle.yaml_pen.specs.Page.{result_of_error}
use Rattle.yaml_pen.specs.Wrote.{Grows}
use Rattle.yaml_emitter.specs.State.{MachineState, State, KeepsGiven, KeepsSet, machine_of}
use Rattle.yaml_emitter.specs.StandsAfter.{MachineStands, HasReached, ReachedOn, StandsAfter, failed_by}
use Rattle.yaml_emitter.specs.Moves.{Moves}
use Rattle.yaml_emitter.specs.Queue.{are_ready_by_one_more, is_head_ready}

-- the machine with the error of a call kept, if it has one
abbrev pub kept_error : Result (Unit {0}) yaml_error_t → MachineState → MachineState
kept_error (Ok _) machine = machine
kept_error (Err error) machine = failed_by error machine

-- no event waits, or the first isn't ready even if `last` follows them
abbrev pub StillWait : List Event → (last : Event) → Type 0
StillWait [] last = Unit {0}
StillWait (event ∷ rest) last = is_head_ready (event ∷ rest ++ last ∷ []) ≡ false

-- of the waiting events the first `count` are written, and no other is ready if `last` follows
pub record WroteWaiting (waiting : List Event) (last : Event) (count : ℕ) (before after : MachineState) : Type 0 where
  pub within : count ≤ length waiting
  pub reached : ReachedOn (waiting ++ last ∷ []) before (drop count waiting ++ last ∷ []) after
  pub waits : StillWait (drop count waiting) last

-- an emitter wrote the waiting events that are ready if `last` follows them
pub record Settled (before : State) (last : Event) (after : State) : Type 0 where
  pub count : ℕ
  pub held : after.held ≡ drop count before.held
  pub wrote : WroteWaiting before.held last count (machine_of before) (machine_of after)
  pub unready : is_head_ready (before.held ++ last ∷ []) ≡ false → count ≡ 0
  pub grows : Grows before.page after.page
  pub set : KeepsSet before after
  pub no_error : after.error ≡ None

-- writing one of them failed
pub record SettlingFailed (before : State) (last : Event) (error : yaml_error_t) (after : State) : Type 0 where
  pub ready : is_head_ready (before.held ++ last ∷ []) ≡ true
  pub stands : (given : Settings) (all prefix : List Event) → HasReached given all prefix (before.held ++ last ∷ []) (machine_of before)
      → MachineStands given all (Some error) after.held (machine_of after)
  pub grows : Grows before.page after.page
  pub set : KeepsSet before after
  pub is_error : after.error ≡ Some error

-- an emitter writes the waiting events that are ready if `last` follows them, or fails
abbrev pub Settles : State → (last : Event) → Result (Unit {0}) yaml_error_t → State → Type 0
Settles before last (Ok _) after = Settled before last after
Settles before last (Err error) after = SettlingFailed before last error after

-- a machine was given an event that is ready, and no event waits
pub record WroteAlone (before : MachineState) (event : Event) (answer : Result (Unit {0}) yaml_error_t) (after : MachineState) : Type 0 where
  pub stands : (given : Settings) (all prefix : List Event) → HasReached given all prefix (event ∷ []) before
      → MachineStands given all after.error [] after
  pub grows : Grows before.page after.page
  pub set : KeepsGiven before after
  pub answered : answer ≡ result_of_error after.error

-- an emitter was given an event: the clauses of `yaml_emitter_emit` for it
pub record EmitsEvent (before : State) (event : Event) (answer : Result (Unit {0}) yaml_error_t) (after : State) : Type 0 where
  pub moves : Moves before (event ∷ []) answer after
  pub waits : (given : Settings) (all : List Event) → StandsAfter given all before → before.error ≡ None
      → written (all ++ event ∷ []) ≡ written all → IsOk answer
  pub kept : IsSome before.error → after ≡ record before { events = before.events ++ event ∷ []; started = true }

-- no memory for the copy of a scalar that has to wait, since not all events before it are ready with it: nothing changed, and there is no error
pub record CopyFailed (before : State) (answer : Result (Unit {0}) yaml_error_t) (after : State) : Type 0 where
  pub answered : answer ≡ Err Memory
  pub unchanged : after ≡ before
  pub no_error : before.error ≡ None
  pub waits : are_ready_by_one_more before.held ≡ false

-- an emitter took a scalar, or had no memory to copy it
abbrev pub EmitsScalar : State → Event → Result (Unit {0}) yaml_error_t → State → Type 0
EmitsScalar before event answer after = EmitsEvent before event answer after ⊎ CopyFailed before answer after
