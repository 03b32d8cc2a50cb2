-- The answers of a writer's calls that give one event, and the results of walks that make such calls.
use Rattle.yaml_writer.proofs.Common.{Bool, Option, None, Some, Result, Ok, Err, IfErr, OnOk, List, [], ◌++◌, ◌∷◌, refl, ◌≡◌, inr, ap, subst, sym, ◌∙◌, Event}
use Rattle.yaml_writer.proofs.Common.{State, WriterState, GaveEvent, end_event, some_from_result, none_from_result, Grows}
use Rattle.yaml_base.proofs.Common.{inl, ◌⊎◌}
use Rattle.yaml_pen.proofs.Composing.{grows_itself, grows_then}
use Rattle.yaml_base.specs.declared.errors.yaml_error_t.{yaml_error_t}
use Rattle.yaml_base.specs.declared.errors.yaml_error_t.TheVariants.{Memory}
use Rattle.yaml_base.specs.declared.kinds.CollectionKind.{CollectionKind}
use Rattle.yaml_writer.specs.Answering.{Answers, IsAnswerBy, IsSoundBy, KeptBy}
use Rattle.yaml_writer.specs.Failing.{HasErrorSaid}
use Rattle.yaml_writer.specs.WasGiven.{IsBare, levels_after_event, start_event}
use Rattle.yaml_writer.specs.Writing.{Begins, EndsInnermost, Gives, with_collection}
use Rattle.yaml_writer.proofs.GivenLemmas.{none_more, same_last}
use Rattle.yaml_writer.proofs.OpenLevels.{gave_end, gave_event, levels_after_start}
use Rattle.yaml_writer.proofs.Taken.{begins_err, begins_ok, given_as, gives_err, gives_ok}

-- ---- results

module _ {E : Type 0} (tells : E → Option yaml_error_t) (before : WriterState) (error : E) where
  kept_saying : (found : Option yaml_error_t) → tells error ≡ found → HasErrorSaid before found before → KeptBy tells before (Err error) before
  kept_saying found is said =
      record { grows = grows_itself before.emitter.page; sound = subst (λ (e : Option yaml_error_t). HasErrorSaid before e before) (sym is) said }

  -- nothing changed, and the error isn't the writer's
  pub kept_same : tells error ≡ None → KeptBy tells before (Err error) before
  kept_same is = kept_saying None is (λ none. none)

  -- or an allocation failed
  pub kept_memory : tells error ≡ Some Memory → KeptBy tells before (Err error) before
  kept_memory is = kept_saying (Some Memory) is (inl (refl, λ none. none))

-- a success, and then another call
pub kept_then : {E : Type 0} {tells : E → Option yaml_error_t} (before between after : WriterState) (result : Result (Unit {0}) E)
    → KeptBy tells before (Ok tt) between → KeptBy tells between result after → KeptBy tells before result after
kept_then {E} {tells} before between after result one other =
    record { grows = grows_then {between = between.emitter.page} one.grows other.grows; sound = sound_then result other.sound } where
      said : (found : Option yaml_error_t) → HasErrorSaid between found after → HasErrorSaid before found after
      said None stays = λ none. stays one.sound
      said (Some error) (inl memory) = inl (memory.0, λ none. memory.1 one.sound)
      said (Some error) (inr has) = inr has

      sound_then : (result : Result (Unit {0}) E) → IsSoundBy tells between result after → IsSoundBy tells before result after
      sound_then (Ok done) sound = sound
      sound_then (Err error) sound = said (tells error) sound

-- ---- answers

has_none : (found : Option yaml_error_t) (error : yaml_error_t) → found ≡ Some error → found ≡ None → ⊥
has_none found error has none = cc

-- an allocation failed
pub answers_memory : (before after : WriterState) (event : Event) (error : yaml_error_t) → (error ≡ Memory) × (after ≡ before)
    → Answers before event (Err error) after
answers_memory before after event error memory = record {
  kept = subst (KeptBy (λ (e : yaml_error_t). Some e) before (Err error)) (sym memory.1)
      (kept_memory (λ (e : yaml_error_t). Some e) before error (ap (λ (e : yaml_error_t). Some e) memory.0));
  unmoved = λ none. memory.1;
  failed = inl memory;
}

module _ (before first after : WriterState) (event : Event) (emitter : first.emitter ≡ before.emitter) (canonical : first.canonical ≡ before.canonical)
    (levels : first.levels ≡ levels_after_event event before.levels) where
  -- an event was given, or not
  answers_gave : (answer : Result (Unit {0}) yaml_error_t) → OnOk answer (GaveEvent first event (Ok tt) after)
      → IfErr answer (λ error. GaveEvent first event (Err error) after ⊎ ((error ≡ Memory) × (after ≡ before))) → Answers before event answer after
  answers_gave (Ok done) gave failed = record {
    kept = record {
      grows = subst (λ (s : State). Grows s.page after.emitter.page) emitter gave.emits.grows;
      sound = none_from_result after.emitter.error gave.emits.answered;
    };
    unmoved = tt;
    failed = tt;
  }
  answers_gave (Err error) gave (inl given) =
      let has = some_from_result after.emitter.error error given.emits.answered in
      record {
        kept = record { grows = subst (λ (s : State). Grows s.page after.emitter.page) emitter given.emits.grows; sound = inr has };
        unmoved = λ none. absurd (has_none after.emitter.error error has none);
        failed = inr (record { gave = gave_event before first after event (Err error) emitter canonical levels given; is_error = inr has });
      }
  answers_gave (Err error) gave (inr memory) = answers_memory before after event error memory

-- an event that opens no collection and closes none
pub answers_event : (before after : WriterState) (given event : Event) (answer : Result (Unit {0}) yaml_error_t) → given ≡ event
    → levels_after_event event before.levels ≡ before.levels → Gives before given answer after → Answers before event answer after
answers_event before after given event answer is keeps gives =
    let same = given_as before after answer is gives in
    answers_gave before before after event refl refl (sym keeps) answer (gives_ok before after event answer same) (gives_err before after event answer same)

-- the start of a collection
pub answers_start : (in_flow : Bool) (kind : CollectionKind) (before after : WriterState) (answer : Result (Unit {0}) yaml_error_t)
    → Begins kind before (start_event in_flow kind) answer after → Answers before (start_event in_flow kind) answer after
answers_start in_flow kind before after answer begins =
    let event = start_event in_flow kind in
    answers_gave before (with_collection before kind) after event refl refl (sym (levels_after_start in_flow kind before.levels)) answer
    (begins_ok kind before after event answer begins) (begins_err kind before after event answer begins)

-- the end of one, which is open
pub answers_end : (before after : WriterState) (answer : Result (Unit {0}) yaml_error_t) (outer : List CollectionKind) (kind : CollectionKind)
    → before.levels ≡ outer ++ kind ∷ [] → IsBare before → EndsInnermost before answer after → Answers before (end_event kind) answer after
answers_end before after answer outer kind levels bare (inl none) = absurd (none_more outer kind (sym levels ∙ none.0))
answers_end before after (Ok done) outer kind levels bare (inr end) =
    record {
      kept = record { grows = end.emits.grows; sound = none_from_result after.emitter.error end.emits.answered };
      unmoved = tt;
      failed = tt;
    }
answers_end before after (Err error) outer kind levels bare (inr end) =
    let same = same_last end.outer outer end.kind kind (sym end.levels ∙ levels) in
    let has = some_from_result after.emitter.error error end.emits.answered in
    record {
      kept = record { grows = end.emits.grows; sound = inr has };
      unmoved = λ none. absurd (has_none after.emitter.error error has none);
      failed = inr (record { gave = gave_end outer kind before after (Err error) levels bare end same.1 same.0; is_error = inr has });
    }

-- ---- an answer as a result

module _ {E : Type 0} (make : yaml_error_t → E) where
  pub ok_by : (P : Type 0) (answer : Result (Unit {0}) yaml_error_t) (result : Result (Unit {0}) E) → IsAnswerBy make answer result → OnOk answer P
      → OnOk result P
  ok_by P (Ok done) (Ok same) is held = held
  ok_by P (Err error) (Err stop) is held = tt
  ok_by P _ _ is held = absurd is

  pub kept_by : {event : Event} (tells : E → Option yaml_error_t) → ((error : yaml_error_t) → tells (make error) ≡ Some error) → (before after : WriterState)
      (answer : Result (Unit {0}) yaml_error_t) (result : Result (Unit {0}) E) → IsAnswerBy make answer result → Answers before event answer after
      → KeptBy tells before result after
  kept_by tells says before after (Ok done) (Ok same) is answers = record { grows = answers.kept.grows; sound = answers.kept.sound }
  kept_by tells says before after (Err error) (Err stop) is answers =
      record {
        grows = answers.kept.grows;
        sound = subst (λ (found : Option yaml_error_t). HasErrorSaid before found after) (sym (ap tells is ∙ says error)) answers.kept.sound;
      }
  kept_by tells says before after _ _ is answers = absurd is
