-- Emitters that are taken out of a handle and put in again.
use Rattle.yaml_c.proofs.Common.{Option, Some, ℤ, true, ◌≡◌, ◌∙◌, subst, sym, State}
use Rattle.std.proofs.Common.{false}
use Rattle.yaml_base.specs.declared.errors.yaml_error_t.TheVariants.{Memory}
use Rattle.yaml_emitter.specs.Emits.{IsPromised}
use Rattle.yaml_c.specs.Kept.{Changes, TellsError, UnlessClosed}
use Rattle.yaml_c.specs.declared.kept.Kept.{Kept}
use Rattle.yaml_c.specs.declared.results.CallResult.{CallResult}

-- a call over what was taken out, which was put in again
pub changed : (relation : Kept → Kept → Type 0) (old new : Option Kept) (before after : Kept) → Some before ≡ old → new ≡ Some after
    → after.emitter.has_output ≡ true → IsPromised after.emitter → relation before after → Changes relation old new
changed relation old new before after taken put output promised related =
    subst (λ (o : Option Kept). Changes relation o new) taken
    (subst (λ (n : Option Kept). Changes relation (Some before) n) (sym put) (output, promised, related))

-- so with a call whose status is returned
pub changed_by : (relation : ℤ → Kept → Kept → Type 0) (old new : Option Kept) (before after : Kept) (status returned : ℤ) → status ≡ returned
    → Some before ≡ old → new ≡ Some after → after.emitter.has_output ≡ true → IsPromised after.emitter → relation returned before after
    → Changes (relation status) old new
changed_by relation old new before after status returned fits taken put output promised related =
    changed (relation status) old new before after taken put output promised
    (subst (λ (s : ℤ). relation s before after) (sym fits) related)

-- A call over an emitter that isn't closed, and over one that is.
module _ (status : ℤ) (report : CallResult) (relation : State → State → Type 0) (before after : State) where
  pub while_open : before.closed ≡ false → relation before after → UnlessClosed status report relation before after
  while_open unclosed related = (λ closed. absurd (cc (sym closed ∙ unclosed)), λ _. related)

  pub while_closed : before.closed ≡ true → TellsError (Some Memory) status report → after ≡ before
      → UnlessClosed status report relation before after
  while_closed closed tells same = (λ _. (tells, same), λ unclosed. absurd (cc (sym closed ∙ unclosed)))
