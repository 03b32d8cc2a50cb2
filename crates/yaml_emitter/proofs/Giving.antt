-- Events given to an emitter by several calls.
use Rattle.yaml_emitter.proofs.Common.{append_assoc, append-nil, ap, sym, ◌∙◌, refl, Result, List, [], ◌++◌, ◌∷◌, ◌≡◌, Event, State, Bool, None, Ok}
use Rattle.yaml_base.specs.{declared.errors.yaml_error_t.yaml_error_t}
use Rattle.yaml_pen.{proofs.Composing.grows_then, proofs.Composing.grows_itself, specs.Page.result_of_error}
use Rattle.yaml_emitter.specs.{Emits.Emits, Moves.started_by}

pub started_then : (started : Bool) (first next : List Event) → started_by (started_by started first) next ≡ started_by started (first ++ next)
started_then started [] next = refl
started_then started (event ∷ first) [] = refl
started_then started (event ∷ first) (other ∷ next) = refl

-- some events, and then others
pub emits_then : {before between after : State} {first next : List Event} {one two : Result (Unit {0}) yaml_error_t} → Emits before first one between
    → Emits between next two after → Emits before (first ++ next) two after
emits_then {before} {between} {after} {first} {next} {one} {two} emits more =
    record {
      set = record {
        events = more.set.events ∙ ap (λ (l : List Event). l ++ next) emits.set.events ∙ append_assoc before.events first next;
        given = more.set.given ∙ emits.set.given;
        started =
            more.set.started ∙ ap (λ (started : Bool). started_by started next) emits.set.started
            ∙ started_then before.started first next;
        has_output = more.set.has_output ∙ emits.set.has_output;
        opened = more.set.opened ∙ emits.set.opened;
        closed = more.set.closed ∙ emits.set.closed;
        taken = more.set.taken ∙ emits.set.taken;
      };
      grows = grows_then emits.grows more.grows;
      taken = more.taken ∙ emits.taken;
      answered = more.answered;
    }

-- no event, without an error before
pub emits_nothing : (state : State) → state.error ≡ None → Emits state [] (Ok tt) state
emits_nothing state none =
    record {
      set = record { events = sym (append-nil state.events); given = refl; started = refl; has_output = refl; opened = refl; closed = refl; taken = refl };
      grows = grows_itself state.page;
      taken = refl;
      answered = sym (ap result_of_error none);
    }

-- by calls that also open or close the stream
pub emits_flagged : {before after : State} {events : List Event} {answer : Result (Unit {0}) yaml_error_t} → Emits before events answer after
    → (opened closed : Bool) → after.opened ≡ opened → after.closed ≡ closed
    → Emits (record before { opened = opened; closed = closed }) events answer after
emits_flagged {before} {after} {events} {answer} emits opened closed opened_is closed_is =
    record {
      set = record {
        events = emits.set.events;
        given = emits.set.given;
        started = emits.set.started;
        has_output = emits.set.has_output;
        opened = opened_is;
        closed = closed_is;
        taken = emits.set.taken;
      };
      grows = emits.grows;
      taken = emits.taken;
      answered = emits.answered;
    }

-- the same under other flags
pub emits_under : {before after : State} {events : List Event} {answer : Result (Unit {0}) yaml_error_t} → (opened closed : Bool)
    → Emits before events answer after
    → Emits (record before { opened = opened; closed = closed }) events answer (record after { opened = opened; closed = closed })
emits_under {before} {after} {events} {answer} opened closed emits =
    record {
      set = record {
        events = emits.set.events;
        given = emits.set.given;
        started = emits.set.started;
        has_output = emits.set.has_output;
        opened = refl;
        closed = refl;
        taken = emits.set.taken;
      };
      grows = emits.grows;
      taken = emits.taken;
      answered = emits.answered;
    }
