-- The events that were given to a writer that fails, and the meaning of its emitter's error.
use Rattle.std.specs.Prelude.{◌≡◌, ◌⊎◌, Option, None, Some, List, [], ◌∷◌}
use Rattle.yaml_base.specs.Event.{Event}
use Rattle.yaml_base.specs.declared.errors.yaml_error_t.{yaml_error_t}
use Rattle.yaml_base.specs.declared.errors.yaml_error_t.TheVariants.{Memory}
use Rattle.yaml_pen.specs.Page.{result_of_error}
use Rattle.yaml_emitter.specs.Emits.{Emits}
use Rattle.yaml_writer.specs.WasGiven.{GaveEvents}
use Rattle.yaml_writer.specs.Writing.{WriterState}

-- these events were given to the emitter, which has this error now; or an allocation failed after them
pub record FailedWith (was : WriterState) (events : List Event) (error : yaml_error_t) (now : WriterState) : Type 0 where
  pub emits : Emits was.emitter events (result_of_error now.emitter.error) now.emitter
  pub is_error : (error ≡ Memory) ⊎ (now.emitter.error ≡ Some error)

-- The writer failed with this error: its emitter has it now, or an allocation failed. These events were given, and the writer can be
-- used further: its form is unchanged, those collections are open that the events leave open, and the next node has no anchor and no tag.
pub record FailedHaving (was : WriterState) (events : List Event) (error : yaml_error_t) (now : WriterState) : Type 0 where
  pub gave : GaveEvents was events now
  pub is_error : (error ≡ Memory) ⊎ (now.emitter.error ≡ Some error)

-- an allocation failed, and nothing changed; or this event was given to the emitter, which has this error now
abbrev pub FailedGiving : WriterState → Event → yaml_error_t → WriterState → Type 0
FailedGiving was event error now = ((error ≡ Memory) × (now ≡ was)) ⊎ FailedWith was (event ∷ []) error now

-- the emitter has no error that it hadn't before
abbrev pub StaysSound : WriterState → WriterState → Type 0
StaysSound was now = was.emitter.error ≡ None → now.emitter.error ≡ None

-- If this error is the emitter's, the emitter has it now, or it tells of an allocation of the call's own. If there is none, the emitter
-- has no error that it hadn't before.
abbrev pub HasErrorSaid : WriterState → Option yaml_error_t → WriterState → Type 0
HasErrorSaid was None now = StaysSound was now
HasErrorSaid was (Some code) now = ((code ≡ Memory) × StaysSound was now) ⊎ (now.emitter.error ≡ Some code)
