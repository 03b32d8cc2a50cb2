-- The bytes that the caller of a writer has taken, and those that are left, after its calls.
use Rattle.yaml_writer.proofs.Common.{IfErr, OnOk, Option, None, Some, Result, Err, Ok, Bool, List, [], ◌++◌, ◌∷◌, refl, ◌≡◌, ap, subst}
use Rattle.yaml_writer.proofs.Common.{sym, ◌∙◌, Text, Event, State, output_left, result_of_error, WriterState, PassedEvents, GaveEvent, option_or}
use Rattle.yaml_base.proofs.Common.{inl, ◌⊎◌, append-nil}
use Rattle.std.{proofs.Common.take-append-drop, proofs.Math.Seq.take-length}
use Rattle.yaml_emitter.specs.{Emits.Emits, Emits.TakesEvent}
use Rattle.yaml_emitter.{proofs.Common.with_all_taken, specs.State.bytes_taken}
use Rattle.yaml_pen.proofs.Composing.{grows_itself}
use Rattle.yaml_base.specs.declared.errors.yaml_error_t.{yaml_error_t}
use Rattle.yaml_writer.specs.{WasGiven.EmitsTaking, Writing.Begins, Writing.Failed, Writing.Gives, Writing.tag_or_default, Writing.with_collection}
use Rattle.yaml_base.specs.{declared.kinds.CollectionKind.CollectionKind, declared.errors.yaml_error_t.TheVariants.Memory}

-- The bytes that were taken and those that are left are the output.
pub taken_and_left : (state : State) → bytes_taken state ++ output_left state.page ≡ state.page.output
taken_and_left state = take-append-drop state.page.taken state.page.output

-- and then all is taken
pub takes_rest : (before : State) → EmitsTaking before [] (output_left before.page) (with_all_taken before)
takes_rest before =
    record {
      given = refl;
      appended = sym (append-nil before.events);
      taken = take-length before.page.output ∙ sym (taken_and_left before);
    }

-- an answer is the emitter's error
pub emits_by : {before after : State} {events : List Event} {answer : Result (Unit {0}) yaml_error_t} → Emits before events answer after
    → Emits before events (result_of_error after.error) after
emits_by {before} {after} {events} emits = subst (λ answer. Emits before events answer after) emits.answered emits

-- no event is given
pub emits_none : (state : State) → Emits state [] (result_of_error state.error) state
emits_none state =
    record {
      set = record { events = sym (append-nil state.events); given = refl; started = refl; has_output = refl; opened = refl; closed = refl; taken = refl };
      grows = grows_itself state.page;
      taken = refl;
      answered = refl;
    }

-- Calls that pass events on

pub passed : (inside before : WriterState) (events : List Event) (answer : Result (Unit {0}) yaml_error_t) (emitter : State) → inside ≡ before
    → Emits inside.emitter events answer emitter → PassedEvents before events answer (record inside { emitter = emitter })
passed inside before events answer emitter is emits =
    subst (λ (writer : WriterState). PassedEvents writer events answer (record inside { emitter = emitter })) is (record { emits = emits; rest = refl })

-- Calls that give an event with the properties of the next node

pub gave_event : (inside before : WriterState) (emitter : State) (anchor tag : Option Text) (given event : Event)
    (answer : Result (Unit {0}) yaml_error_t) → inside ≡ before → given ≡ event → Emits inside.emitter (given ∷ []) answer emitter → anchor ≡ None
    → tag ≡ None → GaveEvent before event answer (record inside { emitter = emitter; anchor = anchor; tag = tag })
gave_event inside before emitter anchor tag given event answer view is emits no_anchor no_tag =
    record {
      emits =
          subst (λ (w : WriterState). Emits w.emitter (event ∷ []) answer emitter) view
          (subst (λ (e : Event). Emits inside.emitter (e ∷ []) answer emitter) is emits);
      canonical = ap (λ (w : WriterState). w.canonical) view;
      levels = ap (λ (w : WriterState). w.levels) view;
      no_anchor = no_anchor;
      no_tag = no_tag;
    }

gives_gave : (before after : WriterState) (event : Event) (answer : Result (Unit {0}) yaml_error_t) → GaveEvent before event answer after
    → Gives before event answer after
gives_gave before after event (Ok done) gave = gave
gives_gave before after event (Err error) gave = inl gave

-- Calls that give a scalar, whose texts are borrowed

-- the emitter took it, and the properties are used up
pub gave_taken : (inside before : WriterState) (emitter : State) (anchor tag : Option Text) (event : Event) (answer : Result (Unit {0}) yaml_error_t)
    → inside ≡ before → TakesEvent inside.emitter event answer emitter → anchor ≡ None → tag ≡ None
    → Gives before event answer (record inside { emitter = emitter; anchor = anchor; tag = tag })
gave_taken inside before emitter anchor tag event answer view emits no_anchor no_tag =
    gives_gave before (record inside { emitter = emitter; anchor = anchor; tag = tag }) event answer
    (gave_event inside before emitter anchor tag event event answer view refl emits.emits no_anchor no_tag)

-- a call that gives the same event
pub given_as : {given event : Event} (before after : WriterState) (answer : Result (Unit {0}) yaml_error_t) → given ≡ event
    → Gives before given answer after → Gives before event answer after
given_as before after answer is = subst (λ (e : Event). Gives before e answer after) is

-- The event that a call gave, and why a call failed.
pub gives_ok : (before after : WriterState) (event : Event) (answer : Result (Unit {0}) yaml_error_t) → Gives before event answer after
    → OnOk answer (GaveEvent before event (Ok tt) after)
gives_ok before after event (Ok done) gave = gave
gives_ok before after event (Err error) gave = tt

pub gives_err : (before after : WriterState) (event : Event) (answer : Result (Unit {0}) yaml_error_t) → Gives before event answer after
    → IfErr answer (λ error. Failed before event error after)
gives_err before after event (Ok done) gave = tt
gives_err before after event (Err error) failed = failed

-- The same if it begins a collection.
pub begins_ok : (kind : CollectionKind) (before after : WriterState) (event : Event) (answer : Result (Unit {0}) yaml_error_t)
    → Begins kind before event answer after → OnOk answer (GaveEvent (with_collection before kind) event (Ok tt) after)
begins_ok kind before after event (Ok done) gave = gave
begins_ok kind before after event (Err error) gave = tt

pub begins_err : (kind : CollectionKind) (before after : WriterState) (event : Event) (answer : Result (Unit {0}) yaml_error_t)
    → Begins kind before event answer after
    → IfErr answer (λ error. GaveEvent (with_collection before kind) event (Err error) after ⊎ ((error ≡ Memory) × (after ≡ before)))
begins_err kind before after event (Ok done) gave = tt
begins_err kind before after event (Err error) failed = failed

-- a tag that was given, else this one
pub or_own : (tag : Option Text) (is_written : Bool) (own : Text) → option_or tag (tag_or_default None is_written own) ≡ tag_or_default tag is_written own
or_own None is_written own = refl
or_own (Some tag) is_written own = refl
