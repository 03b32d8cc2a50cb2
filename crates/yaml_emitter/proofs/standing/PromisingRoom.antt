-- If an accepted list fits the limit, an emitter has no error but that of memory.
use Rattle.yaml_emitter.proofs.Common.{Option, None, Some, Result, List, [], ◌++◌, ◌∷◌, refl, ◌≡◌, append_assoc, ap, subst, sym, ◌∙◌, Event, IsAccepted}
use Rattle.yaml_emitter.proofs.Common.{Settings, RefusedAt, StateStands, State, result_of_error}
use Rattle.std.specs.Prelude.{IfErr}
use Rattle.yaml_base.specs.declared.errors.{yaml_error_t.yaml_error_t, yaml_error_t.TheVariants.Memory, yaml_error_t.TheVariants.WriteError}
use Rattle.yaml_emitter.proofs.standing.{StandingFull.promises_full, StandingPromises.promises_refusal}
use Rattle.yaml_emitter.specs.Promises.{FitsLimit, FailsOnlyByMemory}

-- no event of an accepted list is refused
refused_unfit : (given : Settings) (all : List Event) (error : yaml_error_t) (state : State) → RefusedAt given all error state → FitsLimit given all → ⊥
refused_unfit given all error state h fits =
    h.ends
    (record {
      rest = h.later ++ fits.more;
      accepted = subst (IsAccepted given.canonical) (sym whole) fits.accepted;
    })
  where
    whole : (h.prefix ++ h.event ∷ []) ++ (h.later ++ fits.more) ≡ all ++ fits.more
    whole =
        sym (append_assoc (h.prefix ++ h.event ∷ []) h.later fits.more)
        ∙ ap (λ (events : List Event). events ++ fits.more) (append_assoc h.prefix (h.event ∷ []) h.later ∙ h.parts)

by_memory : (error : yaml_error_t) (given : Settings) (all : List Event) (state : State) → StateStands given all state → state.error ≡ Some error
    → FitsLimit given all → error ≡ Memory
by_memory WriteError given all state h is fits = absurd ((promises_full given all state h is).unfit fits)
by_memory Memory given all state h is fits = refl
by_memory error given all state h is fits = absurd (refused_unfit given all error state (promises_refusal given all state error h is tt) fits)

by_error : (error : Option yaml_error_t) (given : Settings) (all : List Event) (state : State) → StateStands given all state → state.error ≡ error
    → FitsLimit given all → FailsOnlyByMemory error
by_error None given all state h is fits = tt
by_error (Some error) given all state h is fits = by_memory error given all state h is fits

pub promises_fits : (given : Settings) (all : List Event) (state : State) → StateStands given all state → FitsLimit given all → FailsOnlyByMemory state.error
promises_fits given all state h = by_error state.error given all state h refl

-- so a call that returns the emitter's error returns that
pub memory_only : (error : Option yaml_error_t) (given : Settings) (all : List Event) → (FitsLimit given all → FailsOnlyByMemory error)
    → FitsLimit given all → (answer : Result (Unit {0}) yaml_error_t) → answer ≡ result_of_error error → IfErr answer (λ e. e ≡ Memory)
memory_only None given all only fits answer is = subst (λ (r : Result (Unit {0}) yaml_error_t). IfErr r (λ e. e ≡ Memory)) (sym is) tt
memory_only (Some error) given all only fits answer is = subst (λ (r : Result (Unit {0}) yaml_error_t). IfErr r (λ e. e ≡ Memory)) (sym is) (only fits)
