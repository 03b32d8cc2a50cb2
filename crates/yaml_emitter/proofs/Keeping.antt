-- An emitter's state is the one after the events that it was given.
use Rattle.yaml_emitter.proofs.Common.{true, false, Bool, ℕ, Result, List, [], ◌++◌, ◌∷◌, ◌≡◌, ◌≤◌, arith, ap, length, length-append}
use Rattle.yaml_emitter.proofs.Common.{subst, sym, take, ◌∙◌, false≢true, append-nil, Event, Page, Settings, State, written}
use Rattle.std.proofs.lemmas.List.{take-append-le}
use Rattle.std.proofs.Common.{inl, inr}
use Rattle.std.specs.Prelude.{Ok, Err, OnOk}
use Rattle.yaml_pen.specs.Wrote.{Grows}
use Rattle.yaml_emitter.proofs.Common.{with_all_taken}
use Rattle.yaml_emitter.proofs.standing.{Taking.stands_taken}
use Rattle.yaml_base.specs.declared.errors.{yaml_error_t.yaml_error_t}
use Rattle.yaml_emitter.specs.{Emits.Emits, Emits.IsFlushed, Emits.Keeps, Emits.TakesEvent, Emits.TakesScalar, EmitsEvent.EmitsEvent, EmitsEvent.EmitsScalar}
use Rattle.yaml_emitter.specs.{Moves.Moves, Moves.started_by, Promises.HasAllBytes, StandsAfter.StandsAfter}

none_more : (given more : List Event) (started after : Bool) → after ≡ started_by started more → (started ≡ false → given ≡ []) → after ≡ false
    → given ++ more ≡ []
none_more given [] started after is none unstarted = append-nil given ∙ none (sym is ∙ unstarted)
none_more given (event ∷ more) started after is none unstarted = absurd (false≢true (sym unstarted ∙ is))

-- Of its output no more bytes are taken than it has.
abbrev pub Within : State → Type 0
Within state = state.page.taken ≤ length state.page.output

-- As the output grows, what was taken of it stays.
still_within : {before after : Page} → Grows before after → after.taken ≡ before.taken → before.taken ≤ length before.output
    → after.taken ≤ length after.output
still_within {before} {after} grows same within =
    let longer = ap length grows.output.parts in
    let sum = length-append before.output grows.output.rest in
    omega (arith, longer, sum, same, within)

taken_stays : {before after : Page} → Grows before after → after.taken ≡ before.taken → before.taken ≤ length before.output
    → take after.taken after.output ≡ take before.taken before.output
taken_stays {before} {after} grows same within =
    ap (λ (n : ℕ). take n after.output) same
    ∙ ap (take before.taken) (sym grows.output.parts)
    ∙ take-append-le before.taken before.output grows.output.rest within

-- It stays so by each call that moves it,
pub keeps_moved : {before after : State} {events : List Event} {answer : Result (Unit {0}) yaml_error_t} → before.has_output ≡ true
    → Moves before events answer after → Keeps before → Keeps after
keeps_moved {before} {after} {events} output moves keeps =
    record {
      stands =
          subst (λ (given : Settings). StandsAfter given after.events after) (sym moves.set.given)
          (subst (λ (all : List Event). StandsAfter before.given all after) (sym moves.set.events)
          (moves.stands before.given before.events keeps.stands));
      unstarted = λ none. moves.set.events ∙ none_more before.events events before.started after.started moves.set.started keeps.unstarted none;
      unset = λ none. absurd (false≢true (sym none ∙ moves.set.has_output ∙ output));
      taken = still_within moves.grows moves.set.taken keeps.taken;
    }

-- and by a setter before the first event.
pub keeps_set : {before after : State} → before.events ≡ [] → after.events ≡ before.events → (Within before → Within after)
    → (StandsAfter before.given [] before → StandsAfter after.given [] after) → Keeps before → Keeps after
keeps_set {before} {after} none events within set keeps =
    record {
      stands =
          subst (λ (all : List Event). StandsAfter after.given all after) (sym (events ∙ none))
          (set (subst (λ (all : List Event). StandsAfter before.given all before) none keeps.stands));
      unstarted = λ _. events ∙ none;
      unset = λ _. events ∙ none;
      taken = within keeps.taken;
    }

pub keeps_new : (state : State) (given : Settings) → state.events ≡ [] → state.given ≡ given → state.page.taken ≡ 0 → StandsAfter given [] state
    → Keeps state
keeps_new state given none same untaken stands =
    record {
      stands =
          subst (λ (all : List Event). StandsAfter state.given all state) (sym none) (subst (λ (s : Settings). StandsAfter s [] state) (sym same) stands);
      unstarted = λ _. none;
      unset = λ _. none;
      taken = omega (arith, untaken);
    }

-- The effect of a move, of an event and of a scalar.
pub emits_moved : {before after : State} {events : List Event} {answer : Result (Unit {0}) yaml_error_t} → Keeps before
    → Moves before events answer after → Emits before events answer after
emits_moved keeps moves =
    record {
      set = moves.set;
      grows = moves.grows;
      taken = taken_stays moves.grows moves.set.taken keeps.taken;
      answered = moves.answered;
    }

pub takes_event : {before after : State} {event : Event} {answer : Result (Unit {0}) yaml_error_t} → Keeps before → EmitsEvent before event answer after
    → TakesEvent before event answer after
takes_event {before} {after} {event} keeps emits =
    record {
      emits = emits_moved keeps emits.moves;
      unready = λ none same.
          emits.waits before.given before.events keeps.stands none (ap written (sym emits.moves.set.events) ∙ same);
      kept = emits.kept;
    }

pub takes_scalar : (before after : State) (event : Event) (answer : Result (Unit {0}) yaml_error_t) → Keeps before
    → EmitsScalar before event answer after → TakesScalar before event answer after
takes_scalar before after event answer keeps (inl emits) = inl (takes_event keeps emits)
takes_scalar before after event answer keeps (inr failed) = inr failed

pub all_flushed : (before after : State) (answer : Result (Unit {0}) yaml_error_t) → Keeps before → Moves before [] answer after
    → OnOk answer ((given : Settings) (all : List Event) → StandsAfter given all before → HasAllBytes given all after) → OnOk answer (IsFlushed after)
all_flushed before after (Ok done) keeps moves whole =
    subst (λ (given : Settings). HasAllBytes given after.events after) (sym moves.set.given)
    (subst (λ (all : List Event). HasAllBytes before.given all after) (sym (moves.set.events ∙ append-nil before.events))
    (whole before.given before.events keeps.stands))
all_flushed before after (Err error) keeps moves whole = tt

pub keeps_given : {inside before after : State} → inside ≡ before → before.started ≡ false → after.events ≡ before.events
    → (Within before → Within after) → (StandsAfter before.given [] before → StandsAfter after.given [] after) → Keeps inside → Keeps after
keeps_given {inside} {before} {after} is none events within set keeps =
    let now = subst (λ (s : State). Keeps s) is keeps in keeps_set (now.unstarted none) events within set now

-- Taking its output changes neither,
pub keeps_taken : {state after : State} → after ≡ with_all_taken state → Keeps state → Keeps after
keeps_taken {state} {after} is keeps =
    subst (λ (s : State). Keeps s) (sym is)
    (record {
      stands = stands_taken state.given state.events state keeps.stands;
      unstarted = keeps.unstarted;
      unset = keeps.unset;
      taken = omega (arith);
    })

pub keeps_scalar : {before after : State} (event : Event) (answer : Result (Unit {0}) yaml_error_t) → before.has_output ≡ true → EmitsScalar before event answer after
    → Keeps before → Keeps after
keeps_scalar event answer output (inl emits) keeps = keeps_moved output emits.moves keeps
keeps_scalar event answer output (inr failed) keeps = subst (λ (s : State). Keeps s) (sym failed.unchanged) keeps
