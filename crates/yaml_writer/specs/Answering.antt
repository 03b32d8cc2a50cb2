-- The answer of a writer's call that gives one event, and the results of walks that make such calls.
use Rattle.std.specs.Prelude.{◌≡◌, ◌⊎◌, Option, None, Some, Result, Ok, Err, IfErr, OnErr, [], ◌∷◌}
use Rattle.yaml_base.specs.Event.{Event}
use Rattle.yaml_base.specs.declared.errors.yaml_error_t.{yaml_error_t}
use Rattle.yaml_base.specs.declared.errors.yaml_error_t.TheVariants.{Memory}
use Rattle.yaml_pen.specs.Wrote.{Grows}
use Rattle.yaml_writer.specs.Failing.{FailedHaving, HasErrorSaid}
use Rattle.yaml_writer.specs.Writing.{WriterState}

-- The emitter has no error after a success, and after an error the one that it tells of, as is said.
abbrev pub IsSoundBy : {E : Type 0} → (tells : E → Option yaml_error_t) → WriterState → Result (Unit {0}) E → WriterState → Type 0
IsSoundBy tells was (Ok done) now = now.emitter.error ≡ None
IsSoundBy tells was (Err error) now = HasErrorSaid was (tells error) now

-- and its text and its output only grow
pub record KeptBy {E : Type 0} (tells : E → Option yaml_error_t) (was : WriterState) (result : Result (Unit {0}) E) (now : WriterState) : Type 0 where
  pub grows : Grows was.emitter.page now.emitter.page
  pub sound : IsSoundBy tells was result now

-- If the emitter has no error, nothing changed.
abbrev pub StaysUnlessFailed : WriterState → WriterState → Type 0
StaysUnlessFailed was now = now.emitter.error ≡ None → now ≡ was

-- An allocation failed, and nothing changed; or this event was given to a writer that can be used further, and whose error this is.
abbrev pub FailsAt : WriterState → Event → yaml_error_t → WriterState → Type 0
FailsAt was event error now = ((error ≡ Memory) × (now ≡ was)) ⊎ FailedHaving was (event ∷ []) error now

-- the answer of a call that gives this event
pub record Answers (was : WriterState) (event : Event) (answer : Result (Unit {0}) yaml_error_t) (now : WriterState) : Type 0 where
  pub kept : KeptBy (λ (error : yaml_error_t). Some error) was answer now
  pub unmoved : OnErr answer (StaysUnlessFailed was now)
  pub failed : IfErr answer (λ error. FailsAt was event error now)

-- the answer as the result of a walk
abbrev pub IsAnswerBy : {E : Type 0} → (yaml_error_t → E) → Result (Unit {0}) yaml_error_t → Result (Unit {0}) E → Type 0
IsAnswerBy make (Ok done) (Ok same) = Unit {0}
IsAnswerBy make (Err error) (Err stop) = stop ≡ make error
IsAnswerBy make _ _ = ⊥
