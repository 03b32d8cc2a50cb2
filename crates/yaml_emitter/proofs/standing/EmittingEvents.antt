-- The effect of a call that gives an event, by the effects of its steps.
use Rattle.yaml_emitter.proofs.Common.{IsSome, ℕ, Bool, Option, None, Some, Result, Err, Ok, take, drop, false, true, List, [], ◌++◌, ◌∷◌, refl, ◌≡◌, ap, subst}
use Rattle.yaml_emitter.proofs.Common.{sym, ◌∙◌, arith, KeepsGiven, failed_by, false≢true, Event, has_scalar_texts, written, Settings, is_head_ready, Processed}
use Rattle.yaml_emitter.proofs.Common.{MachineStands, HasReached, StateStands, StandsAfter, State, MachineState, machine_of, KeepsSet, result_of_error, Grows}
use Rattle.std.specs.Prelude.{IsOk}
use Rattle.yaml_base.specs.declared.errors.{yaml_error_t.yaml_error_t}
use Rattle.yaml_emitter.specs.StandsAfter.{FailedReady}
use Rattle.yaml_emitter.proofs.events_done.{SeenTexts.texts_more}
use Rattle.yaml_emitter.proofs.standing.{Growing.grows_page, Growing.processed_grows, KeepsSet.keeps_set_then, KeepsSet.keeps_with_machine}
use Rattle.yaml_emitter.proofs.standing.KeepsSet.{processed_keeps_given, with_machine}
use Rattle.yaml_pen.proofs.Composing.{grows_then}
use Rattle.yaml_emitter.proofs.standing.{StandingMore.failed_more}
use Rattle.yaml_emitter.proofs.standing.Emitting.{none_became_ready, processed_error, reached_taken, stands_on_end, took_alone, took_failed, took_next}
use Rattle.yaml_emitter.specs.EmitsEvent.{EmitsEvent, Settled, SettlingFailed, Settles, StillWait, WroteAlone, WroteWaiting, kept_error}

-- A machine processed an event while none waits, and its error is kept.
wrote_keeping : (event : Event) (before between after : MachineState) (answer : Result (Unit {0}) yaml_error_t) → before.error ≡ None
    → is_head_ready (event ∷ []) ≡ true → Processed event false before between answer → after ≡ kept_error answer between
    → WroteAlone before event answer after
wrote_keeping event before between after (Ok _) none ready done is =
    subst (λ (m : MachineState). WroteAlone before event (Ok tt) m) (sym is)
    (record {
      stands = λ given all prefix reached.
          let on = took_next _ _ _ (took_alone event before between (Ok tt) done) ready given all prefix reached in
          stands_on_end given all on.0 _ between on.1 (processed_error event false before between (Ok tt) done ∙ none) refl;
      grows = processed_grows event false before between (Ok tt) done;
      set = processed_keeps_given event false before between (Ok tt) done;
      answered = sym (ap result_of_error (processed_error event false before between (Ok tt) done ∙ none));
    })
wrote_keeping event before between after (Err error) none ready done is =
    let kept = processed_keeps_given event false before between (Err error) done in
    subst (λ (m : MachineState). WroteAlone before event (Err error) m) (sym is)
    (record {
      stands = λ given all prefix reached.
          (refl, took_failed _ _ _ error (took_alone event before between (Err error) done) ready given all prefix reached);
      grows = processed_grows event false before between (Err error) done;
      set = record { given = kept.given; taken = kept.taken };
      answered = refl;
    })

pub wrote_alone : (event : Event) (before between after : MachineState) (answer result : Result (Unit {0}) yaml_error_t) → before.error ≡ None
    → is_head_ready (event ∷ []) ≡ true → Processed event false before between answer → after ≡ kept_error answer between → result ≡ answer
    → WroteAlone before event result after
wrote_alone event before between after answer result none ready done is returned =
    subst (λ (r : Result (Unit {0}) yaml_error_t). WroteAlone before event r after) (sym returned)
    (wrote_keeping event before between after answer none ready done is)

-- An emitter that was given these events.
abbrev pub started_with : State → List Event → State
started_with before events = record before { events = events; started = true }

-- An emitter to which an event was given.
abbrev pub starting : State → Event → State
starting before event = started_with before (before.events ++ event ∷ [])

-- An emitter was given an event.
emits_by : (event : Event) (before after : State) (answer : Result (Unit {0}) yaml_error_t) → has_scalar_texts event ≡ true
    → ((given : Settings) (all : List Event) → StateStands given all before → StateStands given (all ++ event ∷ []) after)
    → Grows before.page after.page
    → ((given : Settings) (all : List Event) → StateStands given all before → before.error ≡ None
    → written (all ++ event ∷ []) ≡ written all → IsOk answer)
    → (IsSome before.error → after ≡ starting before event)
    → KeepsSet (starting before event) after
    → answer ≡ result_of_error after.error
    → EmitsEvent before event answer after
emits_by event before after answer text stands grows waits kept set answered =
    record {
      moves = record { stands = stood; grows = grows; set = set; answered = answered };
      waits = λ given all h none same. waits given all h.so none same;
      kept = kept;
    }
  where
    stood : (given : Settings) (all : List Event) → StandsAfter given all before → StandsAfter given (all ++ event ∷ []) after
    stood given all h = record { texts = texts_more all event h.texts text; so = stands given all h.so }

-- After an error it changes nothing.
pub emits_failed : (event : Event) (before : State) (error : yaml_error_t) → has_scalar_texts event ≡ true → before.error ≡ Some error
    → EmitsEvent before event (Err error) (starting before event)
emits_failed event before error text is =
    emits_by event before (starting before event) (Err error) text (λ given all h. failed_more given all event before error h is)
    (grows_page before.page before.page refl) (λ given all h none same. let wrong : Some error ≡ None = sym is ∙ none in cc) (λ some. refl)
    (record { events = refl; given = refl; started = refl; has_output = refl; opened = refl; closed = refl; taken = refl })
    (sym (ap result_of_error is))

some_error : (error : Option yaml_error_t) → error ≡ None → IsSome error → ⊥
some_error None none some = cc
some_error (Some error) none some = cc

-- The way of the waiting events once one follows them.
settled_reached : (event : Event) (before settled : State) → before.error ≡ None → (h : Settled (starting before event) event settled)
    → (given : Settings) (all : List Event) → StateStands given all before
    → (prefix : List Event) × HasReached given (all ++ event ∷ []) prefix (settled.held ++ event ∷ []) (machine_of settled)
settled_reached event before settled none h given all stands =
    let at = h.wrote.reached given (all ++ event ∷ []) (take (written all) all) (reached_taken given all event before stands none) in
    (at.0, subst (λ (l : List Event). HasReached given (all ++ event ∷ []) at.0 (l ++ event ∷ []) (machine_of settled)) (sym h.held) at.1)

-- If nothing became ready, the same events wait.
settled_same : (event : Event) (before settled : State) → Settled (starting before event) event settled → is_head_ready (before.held ++ event ∷ []) ≡ false
    → settled.held ≡ before.held
settled_same event before settled h unready = h.held ∙ ap (λ (n : ℕ). drop n before.held) (h.unready unready)

-- None waits any more, and an event that is ready alone was written.
pub emits_alone : (event : Event) (before settled : State) (machine : MachineState) (answer : Result (Unit {0}) yaml_error_t)
    → has_scalar_texts event ≡ true → before.error ≡ None → Settled (starting before event) event settled → settled.held ≡ []
    → is_head_ready (event ∷ []) ≡ true → WroteAlone (machine_of settled) event answer machine
    → EmitsEvent before event answer (with_machine settled settled.held machine)
emits_alone event before settled machine answer text none h alone ready wrote =
    emits_by event before (with_machine settled settled.held machine) answer text
    (λ given all stands.
    let at = settled_reached event before settled none h given all stands in
    let reached : HasReached given (all ++ event ∷ []) at.0 (event ∷ []) (machine_of settled) =
    subst (λ (l : List Event). HasReached given (all ++ event ∷ []) at.0 (l ++ event ∷ []) (machine_of settled)) alone at.1 in
    subst (λ (l : List Event). MachineStands given (all ++ event ∷ []) machine.error l machine) (sym alone)
    (wrote.stands given (all ++ event ∷ []) at.0 reached))
    (grows_then h.grows wrote.grows)
    (λ given all stands none same.
    let unready = none_became_ready given all event before stands none same in
    let empty : before.held ≡ [] = sym (settled_same event before settled h unready) ∙ alone in
    absurd (false≢true (sym unready ∙ ap (λ (l : List Event). is_head_ready (l ++ event ∷ [])) empty ∙ ready)))
    (λ some. absurd (some_error before.error none some))
    (keeps_set_then (starting before event) settled (with_machine settled settled.held machine) h.set
    (keeps_with_machine settled settled.held machine wrote.set))
    wrote.answered

-- An event was appended to those that wait still, and the first of them goes on waiting.
pub emits_waiting : (event : Event) (before settled : State) (held : List Event) → has_scalar_texts event ≡ true → before.error ≡ None
    → Settled (starting before event) event settled → held ≡ settled.held ++ event ∷ [] → is_head_ready held ≡ false
    → EmitsEvent before event (Ok tt) (record settled { held = held })
emits_waiting event before settled held text none h is unready =
    emits_by event before (record settled { held = held }) (Ok tt) text
    (λ given all stands.
    let at = settled_reached event before settled none h given all stands in
    stands_on_end given (all ++ event ∷ []) at.0 held (machine_of settled)
    (subst (λ (l : List Event). HasReached given (all ++ event ∷ []) at.0 l (machine_of settled)) (sym is) at.1) h.no_error unready)
    h.grows (λ given all stands none same. refl)
    (λ some. absurd (some_error before.error none some))
    (keeps_set_then (starting before event) settled (record settled { held = held }) h.set
    (record { events = refl; given = refl; started = refl; has_output = refl; opened = refl; closed = refl; taken = refl }))
    (sym (ap result_of_error h.no_error))

-- One of those that waited failed.
pub emits_stopped : (event : Event) (before after : State) (error : yaml_error_t) → has_scalar_texts event ≡ true → before.error ≡ None
    → SettlingFailed (starting before event) event error after → EmitsEvent before event (Err error) after
emits_stopped event before after error text none h =
    emits_by event before after (Err error) text
    (λ given all stands.
    subst (λ e. MachineStands given (all ++ event ∷ []) e after.held (machine_of after)) (sym h.is_error)
    (h.stands given (all ++ event ∷ []) (take (written all) all) (reached_taken given all event before stands none)))
    h.grows
    (λ given all stands none same. absurd (false≢true (sym (none_became_ready given all event before stands none same) ∙ h.ready)))
    (λ some. absurd (some_error before.error none some))
    h.set (sym (ap result_of_error h.is_error))

ok_same : (n m : ℕ) → (let first : Result ℕ yaml_error_t = Ok n in first) ≡ Ok m → n ≡ m
ok_same n m is = cc

err_apart : (error : yaml_error_t) (n : ℕ) → (let first : Result ℕ yaml_error_t = Err error in first) ≡ Ok n → ⊥
err_apart error n is = cc

-- Nothing waits, and nothing was written.
pub settles_none : (before : State) (last : Event) → before.held ≡ [] → before.error ≡ None → Settles before last (Ok tt) before
settles_none before last empty none =
    record {
      count = 0;
      held = refl;
      wrote =
          record {
            within = omega arith;
            reached = λ given all prefix reached. (prefix, reached);
            waits = subst (λ (l : List Event). StillWait l last) (sym empty) tt;
          };
      unready = λ unready. refl;
      grows = grows_page before.page before.page refl;
      set = record { events = refl; given = refl; started = refl; has_output = refl; opened = refl; closed = refl; taken = refl };
      no_error = none;
    }

-- Those that were ready are written, and dropped.
pub settles_written : (before : State) (last : Event) (held : List Event) (machine : MachineState) (answer : Result ℕ yaml_error_t) (count : ℕ)
    → answer ≡ Ok count → held ≡ drop count before.held → WroteWaiting before.held last count (machine_of before) machine
    → (is_head_ready (before.held ++ last ∷ []) ≡ false → answer ≡ Ok 0) → Grows before.page machine.page → KeepsGiven (machine_of before) machine
    → machine.error ≡ None → Settles before last (Ok tt) (with_machine before held machine)
settles_written before last held machine answer count is dropped wrote unready grows set none =
    record {
      count = count;
      held = dropped;
      wrote = wrote;
      unready = λ h. ok_same count 0 (sym is ∙ unready h);
      grows = grows;
      set = keeps_with_machine before held machine set;
      no_error = none;
    }

-- One of them failed.
pub settles_failed : (before : State) (last : Event) (held : List Event) (between machine : MachineState) (answer : Result ℕ yaml_error_t)
    (error : yaml_error_t) → answer ≡ Err error → held ≡ [] → machine ≡ failed_by error between
    → FailedReady (before.held ++ last ∷ []) error (machine_of before) between
    → (is_head_ready (before.held ++ last ∷ []) ≡ false → answer ≡ Ok 0) → Grows before.page between.page → KeepsGiven (machine_of before) between
    → Settles before last (Err error) (with_machine before held machine)
settles_failed before last held between machine answer error is empty failing failed unready grows set =
    record {
      ready = by (is_head_ready (before.held ++ last ∷ [])) refl;
      stands = λ given all prefix reached.
          subst (λ (m : MachineState). MachineStands given all (Some error) held m) (sym failing) (empty, failed given all prefix reached);
      grows = subst (λ (m : MachineState). Grows before.page m.page) (sym failing) grows;
      set = keeps_with_machine before held machine (subst (λ (m : MachineState). KeepsGiven (machine_of before) m) (sym failing)
          (record { given = set.given; taken = set.taken }));
      is_error = ap (λ (m : MachineState). m.error) failing;
    }
  where
    by : (b : Bool) → is_head_ready (before.held ++ last ∷ []) ≡ b → b ≡ true
    by true e = refl
    by false e = absurd (err_apart error 0 (sym is ∙ unready e))
