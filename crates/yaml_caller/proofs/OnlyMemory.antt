-- Why an emitter fails that has the first events of an accepted list: for want of memory, or because the list's bytes pass the
-- limit. If they don't, memory alone can give out.
use Rattle.yaml_caller.proofs.Common.{ℕ, ◌<◌, ◌≤◌, IsErrAnd, IfErr, IsErr, Some, Result, Err, Ok, length, List, [], ◌++◌, ◌∷◌, ◌⊎◌, refl, ◌≡◌, append_assoc, ap}
use Rattle.yaml_caller.proofs.Common.{inl, inr, subst, sym, ◌∙◌, arith, Event, most_open, open_count, IsAccepted, Settings, RefusedAt, Promised, State}
use Rattle.yaml_base.proofs.Common.{◌+◌, ◌-◌, count_by, cond, sum_by-append, settings_for, bytes_written, list_layout, begins_collection}
use Rattle.yaml_base.proofs.Common.{ends_collection, true≢false}
use Rattle.std.{proofs.Common.lt_of_not-le}
use Rattle.yaml_base.specs.declared.errors.{yaml_error_t.yaml_error_t, yaml_error_t.TheVariants.Memory, yaml_error_t.TheVariants.WriteError}
use Rattle.yaml_emitter.specs.{Promises.FailsOnlyByMemory, Promises.FitsLimit, Uncut.IsUncut}

-- an accepted list that fits begins with these events
pub prefix_fits : (given : Settings) (events all rest : List Event) → IsAccepted given.canonical events → IsUncut given events → all ++ rest ≡ events
    → FitsLimit given all
prefix_fits given events all rest accepted uncut begins =
    record { more = rest; accepted = subst (IsAccepted given.canonical) (sym begins) accepted; uncut = subst (IsUncut given) (sym begins) uncut }

-- then the emitter's error is want of memory
pub only_memory : (given : Settings) (all : List Event) (state : State) (error : yaml_error_t) → FitsLimit given all → Promised given all state
    → state.error ≡ Some error → error ≡ Memory
only_memory given all state error fits promised is = subst FailsOnlyByMemory is (promised.fits fits)

-- no event is refused of those with which an accepted list begins
never_refused : (given : Settings) (events all rest : List Event) (error : yaml_error_t) (state : State) → IsAccepted given.canonical events
    → all ++ rest ≡ events → RefusedAt given all error state → ⊥
never_refused given events all rest error state accepted begins refused =
    refused.ends (record { rest = refused.later ++ rest; accepted = subst (IsAccepted given.canonical) (sym whole) accepted })
  where
    whole : (refused.prefix ++ refused.event ∷ []) ++ (refused.later ++ rest) ≡ events
    whole =
        append_assoc refused.prefix (refused.event ∷ []) (refused.later ++ rest)
        ∙ sym (append_assoc refused.prefix (refused.event ∷ refused.later) rest)
        ∙ ap (λ before. before ++ rest) refused.parts ∙ begins

-- so if the list may not fit, either memory or the limit gave out
pub memory_or_limit : (given : Settings) (events all rest : List Event) (state : State) (error : yaml_error_t) → IsAccepted given.canonical events
    → all ++ rest ≡ events → Promised given all state → state.error ≡ Some error
    → (error ≡ Memory)
    ⊎ ((error ≡ WriteError) × (given.limit < length (bytes_written (settings_for given events) (list_layout (settings_for given events) events))))
memory_or_limit given events all rest state WriteError accepted begins promised is =
    inr (refl, lt_of_not-le (λ uncut. (promised.full is).unfit (prefix_fits given events all rest accepted uncut begins)))
memory_or_limit given events all rest state Memory accepted begins promised is = inl refl
memory_or_limit given events all rest state error accepted begins promised is =
    absurd (never_refused given events all rest error state accepted begins (promised.refused error is tt))

-- a fact about an error holds after it is passed on
pub at_exit : {A : Type 0} (P : Result A yaml_error_t → Type 0) (error : yaml_error_t) (answer : Result A yaml_error_t) → P (Err error)
    → IsErr answer × IsErrAnd answer (λ given. given ≡ error) → P answer
at_exit P error (Ok done) holds is = absurd (true≢false (sym is.0))
at_exit P error (Err given) holds is = subst (λ (e : yaml_error_t). P (Err e)) (sym is.1) holds

pub passed_on : {A : Type 0} (P : yaml_error_t → Type 0) (error : yaml_error_t) (answer : Result A yaml_error_t) → P error
    → IsErr answer × IsErrAnd answer (λ given. given ≡ error) → IfErr answer P
passed_on P error answer holds is = at_exit (λ given. IfErr given P) error answer holds is

-- no more collections are open after any event than the list begins
pub shallow : (events : List Event) → count_by begins_collection events ≤ most_open → (prefix rest : List Event) → prefix ++ rest ≡ events
    → open_count prefix ≤ most_open
shallow events few prefix rest is =
    let total : count_by begins_collection prefix + count_by begins_collection rest ≡ count_by begins_collection events =
    sym (sum_by-append (λ x. cond (begins_collection x) 1 0) prefix rest) ∙ ap (count_by begins_collection) is in
    bounded (count_by begins_collection prefix) (count_by ends_collection prefix) (count_by begins_collection rest) (count_by begins_collection events)
    most_open total few
  where
    bounded : (starts ends others all most : ℕ) → starts + others ≡ all → all ≤ most → starts - ends ≤ most
    bounded starts ends others all most total few = omega (arith, total, few)
