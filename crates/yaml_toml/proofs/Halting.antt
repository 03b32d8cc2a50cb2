-- The events that were given when a walk stops.
use Rattle.yaml_toml.proofs.Common.{◌≡◌, ℕ, suc, ◌≤◌, arith, ◌∷◌, [], List, Result, Ok, Err, inl, inr, refl, ap, subst, sym, length, Event, Scalar, scalar}
use Rattle.yaml_toml.proofs.Common.{WriterState, WroteEvent, zero, gave_events_then, count_after, IsStopOf, Stop, yaml_error_t, CollectionKind}
use Rattle.std.specs.Prelude.{OnErr, pred}
use Rattle.yaml_writer.{proofs.OpenLevels.gave_none, specs.Answering.Answers, specs.Answering.FailsAt}
use Rattle.yaml_toml.specs.Walk.{StepsStop}

-- one that is open ends
pub fewer_fit : (most n : ℕ) → n ≤ most → pred n ≤ most
fewer_fit most zero fits = fits
fewer_fit most (suc n) fits = omega (arith, fits)

module _ {most : ℕ} {due : List Event} {before : List CollectionKind} (was : WriterState) where
  -- nothing was given
  pub halts_at_once : StepsStop most was due before was
  halts_at_once = record { given = []; begins = record { rest = due; parts = refl }; gave = gave_none was; few = λ fits. (length before, (fits, refl)) }

module _ {most : ℕ} {was now : WriterState} where
  -- an event was given, or nothing
  halts_at : (event : Event) (due : List Event) (before : List CollectionKind) (error : yaml_error_t)
      → (length before ≤ most → count_after event (length before) ≤ most) → FailsAt was event error now → StepsStop most was (event ∷ due) before now
  halts_at event due before error room (inl memory) =
      subst (λ (after : WriterState). StepsStop most was (event ∷ due) before after) (sym memory.1) (halts_at_once was)
  halts_at event due before error room (inr failed) = record {
    given = event ∷ [];
    begins = record { rest = due; parts = refl };
    gave = λ bare. failed.gave;
    few = λ fits. (count_after event (length before), (fits, (room fits, refl)));
  }

  pub halts_of : (event : Event) (due : List Event) (before : List CollectionKind) (answer : Result (Unit {0}) yaml_error_t)
      (result : Result (Unit {0}) Stop) → (length before ≤ most → count_after event (length before) ≤ most) → IsStopOf answer result
      → Answers was event answer now → OnErr result (StepsStop most was (event ∷ due) before now)
  halts_of event due before (Ok done) (Ok same) room is answers = tt
  halts_of event due before (Err error) (Err stopped) room is answers = halts_at event due before error room answers.failed
  halts_of event due before _ _ room is answers = absurd is

-- the same events were due, by other words
module _ {most : ℕ} {was now : WriterState} {due same : List Event} {before these : List CollectionKind} where
  pub halts_same : due ≡ same → before ≡ these → StepsStop most was due before now → StepsStop most was same these now
  halts_same is kinds stop =
      subst (λ (ks : List CollectionKind). StepsStop most was same ks now) kinds (subst (λ (events : List Event). StepsStop most was events before now) is stop)

-- after a scalar
module _ {most : ℕ} {was between now : WriterState} {content : Scalar} {due : List Event} {kinds : List CollectionKind} where
  pub halts_after : WroteEvent was (scalar content) between → StepsStop most between due kinds now → StepsStop most was (scalar content ∷ due) kinds now
  halts_after wrote stop = record {
    given = scalar content ∷ stop.given;
    begins = record { rest = stop.begins.rest; parts = ap (λ (events : List Event). scalar content ∷ events) stop.begins.parts };
    gave = λ bare. gave_events_then was between now (scalar content ∷ []) stop.given wrote (stop.gave wrote.bare);
    few = λ fits. let more = stop.few fits in (more.0, (fits, more.1));
  }
