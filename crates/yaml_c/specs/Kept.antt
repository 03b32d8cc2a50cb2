-- The results of the calls over an emitter that a C program keeps, and the emitter after them.
use Rattle.std.specs.Prelude.{◌≡◌, ℕ, ℤ, pos, true, false, Option, None, Some, IsSome, List, [], length, nat_le, if◌then◌else◌}
use Rattle.yaml_base.specs.Event.{Event}
use Rattle.yaml_base.specs.Settings.{Settings}
use Rattle.yaml_base.specs.declared.errors.yaml_error_t.{yaml_error_t}
use Rattle.yaml_base.specs.declared.errors.yaml_error_t.TheVariants.{Memory}
use Rattle.yaml_emitter.specs.Emits.{Emits, IsFlushed, IsPromised, TakesEvent}
use Rattle.yaml_emitter.specs.State.{State, new_state_with, with_all_taken}
use Rattle.yaml_pen.specs.Page.{output_left, result_of_error}
use Rattle.yaml_c.specs.Answers.{CopiesToCaller, nothing_reported, results_done}
use Rattle.yaml_c.specs.Emission.{error_number}
use Rattle.yaml_c.specs.Giving.{MayCopy}
use Rattle.yaml_c.specs.Places.{at_start}
use Rattle.yaml_c.specs.declared.kept.Kept.{Kept}
use Rattle.yaml_c.specs.declared.place.Spot.TheVariants.{Nowhere}
use Rattle.yaml_c.specs.declared.results.CallResult.{CallResult}

-- True if a call was made over an open emitter, which stays open and keeps its promises.
abbrev pub Changes : (Kept → Kept → Type 0) → Option Kept → Option Kept → Type 0
Changes relation (Some before) (Some after) = (after.emitter.has_output ≡ true) × IsPromised after.emitter × relation before after
Changes relation before after = ⊥

-- True if an emitter is open and its output is set.
abbrev pub IsOpenEmitter : Option Kept → Type 0
IsOpenEmitter None = ⊥
IsOpenEmitter (Some kept) = kept.emitter.has_output ≡ true

-- True if a call had this effect on the emitter, and the next value has the same place.
abbrev pub OnEmitter : (State → State → Type 0) → Kept → Kept → Type 0
OnEmitter relation before after = relation before.emitter after.emitter × (after.place ≡ before.place)

-- True if a call had this effect on the emitter, and values have no place from then on.
abbrev pub OnEvents : (State → State → Type 0) → Kept → Kept → Type 0
OnEvents relation before after = relation before.emitter after.emitter × (after.place ≡ record before.place { spot = Nowhere })

-- ---- the results

abbrev pub error_status : Option yaml_error_t → ℤ
error_status None = pos 0
error_status (Some Memory) = pos 3
error_status (Some error) = pos 1

abbrev pub report_of : Option yaml_error_t → CallResult
report_of None = nothing_reported
report_of (Some error) = record nothing_reported { error = error_number error }

-- True if the status and the report are those of an error, or of none.
abbrev pub TellsError : Option yaml_error_t → (status : ℤ) → CallResult → Type 0
TellsError error status report = (status ≡ error_status error) × (report ≡ report_of error)

-- The error that each later call tells: that memory ran out within a JSON text, after which the emitter is closed, or else the emitter's.
abbrev pub lasting_error : State → Option yaml_error_t
lasting_error state = if state.closed then Some Memory else state.error

-- True if a call over a closed emitter tells that memory ran out, and changes nothing, and if a call over another does this.
abbrev pub UnlessClosed : (status : ℤ) → CallResult → (State → State → Type 0) → State → State → Type 0
UnlessClosed status report relation before after =
    (before.closed ≡ true → TellsError (Some Memory) status report × (after ≡ before)) × (before.closed ≡ false → relation before after)

-- ---- the calls

-- True if a new emitter with these settings is made, or memory ran out, or no emitter has such settings.
abbrev pub MakesEmitter : Option Settings → (status : ℤ) → Option Kept → Type 0
MakesEmitter None status made = (status ≡ pos 9) × (made ≡ None)
MakesEmitter (Some given) status (Some kept) =
    (status ≡ pos 0) × (kept.emitter ≡ new_state_with given) × (kept.place ≡ at_start) × IsPromised kept.emitter
MakesEmitter (Some given) status None = status ≡ pos 3

-- True if an emitter was given the event of a record, or nothing changed, since the record has no reading or memory for its texts ran out.
pub data GivesRecord (read : Option Event) (status : ℤ) (report : CallResult) (before after : State) : Type 0 where
  gives : (event : Event) → read ≡ Some event → TakesEvent before event (result_of_error after.error) after → TellsError after.error status report
      → GivesRecord read status report before after
  unreadable : read ≡ None → status ≡ pos 8 → report ≡ nothing_reported → after ≡ before → GivesRecord read status report before after
  no_memory : status ≡ pos 3 → report ≡ nothing_reported → after ≡ before → MayCopy read before → GivesRecord read status report before after

-- True if an emitter was flushed. If the output can't grow, it stays as it was; if all is flushed already, nothing changes.
pub record Flushes (status : ℤ) (report : CallResult) (before after : State) : Type 0 where
  pub tells : TellsError after.error status report
  pub emits : Emits before [] (result_of_error after.error) after
  pub flushed : after.error ≡ None → IsFlushed after
  pub unflushed : after.error ≡ Some Memory → after.page.output ≡ before.page.output
  pub idle : before.error ≡ None → IsFlushed before → after ≡ before
  pub kept : IsSome before.error → after ≡ before

-- True if the flushed bytes that weren't taken are copied to the caller's buffer and taken, if they fit.
pub record TakesOutput (old : List ℕ) (status : ℤ) (new : List ℕ) (report : CallResult) (before after : State) : Type 0 where
  pub copied : CopiesToCaller (results_done (output_left before.page) 0 old) status new report
  pub left : after ≡ (if nat_le (length (output_left before.page)) (length old) then with_all_taken before else before)
