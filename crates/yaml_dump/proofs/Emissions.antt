-- Events emitted one after another, and streams opened and closed.
use Rattle.yaml_dump.proofs.Common.{arith, nat_tests}
use Rattle.yaml_base.proofs.Common.{if◌then◌else◌, None, Some, Bool, false, true, ◌||◌, List, [], map, ◌++◌, ◌∷◌, refl, ◌≡◌, stream_start, stream_end}
use Rattle.yaml_pen.proofs.{Composing.grows_itself, Composing.grows_then, Writing.some_from_result}
use Rattle.yaml_base.proofs.Common.{append_assoc, inl, inr, ap, subst, sym, ◌∙◌, or-true, false≢true, Event}
use Rattle.yaml_base.proofs.Common.{append-nil}
use Rattle.yaml_emitter.proofs.Common.{State, Promised}
use Rattle.yaml_base.specs.Settings.{Settings}
use Rattle.yaml_pen.specs.{Page.Page, Wrote.Grows}
use Rattle.std.specs.Prelude.{is_ok}
use Rattle.yaml_emitter.proofs.Giving.{emits_flagged, emits_nothing, emits_then, emits_under}
use Rattle.yaml_emitter.specs.Emits.{Emits, IsPromised}
use Rattle.std.{proofs.Math.Bool.or-false, specs.Prelude.Err, specs.Prelude.Ok, specs.Prelude.Result, specs.Prelude.IsSome, specs.Prelude.OnOk}
use Rattle.std.{specs.Prelude.OnErr}
use Rattle.yaml_base.specs.{declared.errors.yaml_error_t.yaml_error_t, declared.events.yaml_event_t.yaml_event_t}
use Rattle.yaml_dump.specs.Dumps.{EmitsAll, KeepsEarlier, FailsAt, EmitsEach, OpensFrom, ClosesFrom, Closes, DumpsEvents, has_some, opening_unless}
use Rattle.yaml_dump.specs.Dumps.{closing_unless, dump_events}
use Rattle.yaml_dump.specs.DumpsTell.{IsBegun, KeepsRest}

-- a call that answers Ok found no error
pub error_kept : {P : Type 0} (before after : State) (event : Event)
    → (IsSome before.error → after ≡ record before { events = before.events ++ event ∷ []; started = true }) → after.error ≡ None
    → IsSome before.error → P
error_kept before after event kept none some = absurd (false≢true (subst IsSome (sym (ap (λ (state : State). state.error) (kept some)) ∙ none) some))

-- one more event
pub parts_more : {A : Type 0} (emitted : List (yaml_event_t A)) (next : yaml_event_t A) (rest left all : List (yaml_event_t A)) → emitted ++ left ≡ all
    → left ≡ next ∷ rest → (emitted ++ next ∷ []) ++ rest ≡ all
parts_more emitted next rest left all parts is = grind (arith, nat_tests, append_assoc)

pub some_more : {A B : Type 0} (f : A → B) (emitted : List A) (next : A) → map f (emitted ++ next ∷ []) ≡ [] → ⊥
some_more f [] next none = cc
some_more f (first ∷ emitted) next none = cc

-- ---- streams that are opened and closed as a whole

pub closed_already : (before : State) → before.closed ≡ true → Closes before (Ok tt) before
closed_already before closed = subst (λ (b : Bool). ClosesFrom b before (Ok tt) before) (sym closed) (refl, refl)

-- the start, if the stream isn't opened
pub emits_opening : (before middle : State) (done : Unit {0}) (opened : Bool) → before.opened ≡ opened → before.error ≡ None
    → OpensFrom opened before (Ok done) middle → EmitsAll (record before { opened = true }) (opening_unless opened) middle
emits_opening before middle done true is none opens =
    record {
      emits =
          subst (λ (s : State). Emits (record before { opened = true }) [] (Ok tt) s) (sym opens.1)
          (emits_flagged (emits_nothing before none) true before.closed is refl);
      unchanged = λ nothing. opens.1 ∙ ap (λ (b : Bool). record before { opened = b }) is;
    }
emits_opening before middle done false is none opens = record { emits = opens; unchanged = λ nothing. cc }

-- no event before the first
keeps_none : (before : State) (after : Page) → before.error ≡ None → IsPromised before → Grows before.page after
    → KeepsEarlier before.given (before.events ++ []) before.page after
keeps_none before after none promised grows = grind (arith, nat_tests, append-nil, grows_itself)

-- more events before them
keeps_then : {before middle : State} {first : List Event} {answer : Result (Unit {0}) yaml_error_t} (earlier : List Event) (after : Page)
    → Emits before first answer middle → KeepsEarlier middle.given (middle.events ++ earlier) middle.page after
    → KeepsEarlier before.given (before.events ++ (first ++ earlier)) before.page after
keeps_then {before} {middle} {first} {answer} earlier after emits kept = grind (arith, nat_tests, append_assoc, grows_then)

-- the end, if it isn't closed
pub emits_closing : (before after : State) (answer : Result (Unit {0}) yaml_error_t) (closed : Bool) → before.error ≡ None → IsPromised before
    → ClosesFrom closed before answer after → EmitsEach (record before { closed = after.closed }) (closing_unless closed) answer after
emits_closing before after (Ok done) true none promised closes =
    record {
      emits =
          subst (λ (s : State). Emits (record before { closed = s.closed }) [] (Ok tt) s) (sym closes.1)
          (emits_flagged (emits_nothing before none) before.opened before.closed refl refl);
      unchanged = λ nothing. subst (λ (s : State). s ≡ record before { closed = s.closed }) (sym closes.1) refl;
    }
emits_closing before after (Err error) true none promised closes = absurd (let wrong = closes.0 in cc)
emits_closing before after (Ok done) false none promised closes =
    record { emits = emits_flagged closes before.opened after.closed closes.set.opened refl; unchanged = λ nothing. cc }
emits_closing before after (Err error) false none promised closes =
    record {
      earlier = [];
      event = stream_end;
      later = [];
      parts = refl;
      kept = keeps_none before after.page none promised closes.grows;
      emits = emits_flagged closes before.opened after.closed closes.set.opened refl;
    }

-- by its answer a stream is closed, or as it was
pub closed_by : (before after : State) (answer : Result (Unit {0}) yaml_error_t) (closed : Bool) → before.closed ≡ closed
    → ClosesFrom closed before answer after → OnOk answer (after.closed ≡ true) × OnErr answer (after.closed ≡ before.closed)
closed_by before after answer closed is x = grind (arith, nat_tests)

-- ---- dumps

on_ok : {P : Type 0} (answer : Result (Unit {0}) yaml_error_t) → P → OnOk answer P
on_ok answer p = grind (arith, nat_tests)

no_parts : (first second : List Event) → first ++ second ≡ [] → (first ≡ []) × (second ≡ [])
no_parts [] second none = (refl, none)
no_parts (event ∷ first) second none = cc

-- if the start is the first event, the stream is opened once an event was emitted
opened_some : (opened now : Bool) (more : List Event) → now ≡ true → now ≡ (opened || has_some (opening_unless opened ++ more))
opened_some opened now more is = grind (arith, nat_tests)

-- events after the start
pub dumps_then : (nodeless : Bool) (document : List Event) (before middle after : State) (closed : Bool) (more : List Event)
    (answer : Result (Unit {0}) yaml_error_t)
    → EmitsAll (record before { opened = true }) (opening_unless before.opened) middle → EmitsEach (record middle { closed = closed }) more answer after
    → opening_unless before.opened ++ more ≡ dump_events before nodeless document
    → OnOk answer (after.closed ≡ (before.closed || nodeless)) → OnErr answer (after.closed ≡ before.closed)
    → DumpsEvents nodeless document before answer after
dumps_then nodeless document before middle after closed more (Ok done) first then_more is by_ok by_error =
    let whole : Bool = before.closed || nodeless in
    let opened = then_more.emits.set.opened ∙ first.emits.set.opened in
    record {
      emits =
          subst (λ (events : List Event). Emits (record before { opened = true; closed = whole }) events (Ok tt) after) is
          (emits_then (emits_under true whole first.emits) (emits_flagged then_more.emits true whole opened by_ok));
      unchanged = λ nothing.
          let none = no_parts (opening_unless before.opened) more (is ∙ nothing) in
          let same = then_more.unchanged none.1 in
          same ∙ ap (λ (s : State). record s { closed = closed }) (first.unchanged none.0)
          ∙ ap (λ (b : Bool). record before { opened = true; closed = b }) (sym (ap (λ (s : State). s.closed) same) ∙ by_ok);
    }
dumps_then nodeless document before middle after closed more (Err error) first fails is by_ok by_error =
    let opened = fails.emits.set.opened ∙ first.emits.set.opened in
    let start = opening_unless before.opened in
    inr
    (record {
      fails =
          record {
            earlier = start ++ fails.earlier;
            event = fails.event;
            later = fails.later;
            parts = append_assoc start fails.earlier (fails.event ∷ fails.later) ∙ ap (λ events. start ++ events) fails.parts ∙ is;
            kept = keeps_then fails.earlier after.page first.emits fails.kept;
            emits =
                subst (λ (events : List Event). Emits (record before { opened = after.opened }) events (Err error) after)
                (sym (append_assoc start fails.earlier (fails.event ∷ [])))
                (emits_then (emits_under after.opened before.closed first.emits) (emits_flagged fails.emits after.opened before.closed refl by_error));
          };
      opened_before = opened_some before.opened after.opened fails.earlier opened;
    })

-- the start failed
pub dumps_unopened : (nodeless : Bool) (document : List Event) (before after : State) (opened : Bool) (error : yaml_error_t)
    → before.opened ≡ opened → before.error ≡ None → IsPromised before → OpensFrom opened before (Err error) after
    → DumpsEvents nodeless document before (Err error) after
dumps_unopened nodeless document before after true error was none promised opens = absurd (let wrong = opens.0 in cc)
dumps_unopened nodeless document before after false error was none promised opens =
    let more : List Event = if nodeless then closing_unless before.closed else document in
    inr
    (record {
      fails =
          record {
            earlier = [];
            event = stream_start None;
            later = more;
            parts = ap (λ (b : Bool). opening_unless b ++ more) (sym was);
            kept = keeps_none before after.page none promised opens.grows;
            emits = emits_flagged opens after.opened before.closed refl opens.set.closed;
          };
      opened_before = opens.set.opened ∙ sym (ap (λ (b : Bool). b || false) was);
    })

-- a document without nodes closes the stream
pub dumps_closing : (nodeless : Bool) (document : List Event) (before middle after : State) (answer : Result (Unit {0}) yaml_error_t) → nodeless ≡ true
    → middle.error ≡ None → IsPromised middle → EmitsAll (record before { opened = true }) (opening_unless before.opened) middle
    → Closes middle answer after → DumpsEvents nodeless document before answer after
dumps_closing nodeless document before middle after answer empty none promised first closes =
    let closed = first.emits.set.closed in
    let by = closed_by middle after answer middle.closed refl closes in
    dumps_then nodeless document before middle after after.closed (closing_unless middle.closed) answer first
    (emits_closing middle after answer middle.closed none promised closes)
    (ap (λ (c : Bool). opening_unless before.opened ++ closing_unless c) closed
    ∙ ap (λ (b : Bool). opening_unless before.opened ++ (if b then closing_unless before.closed else document)) (sym empty))
    (ok_then answer (λ is. is ∙ sym (ap (λ (b : Bool). before.closed || b) empty ∙ or-true before.closed)) by.0) (err_then answer (λ is. is ∙ closed) by.1)
  where
    ok_then : {P Q : Type 0} (answer : Result (Unit {0}) yaml_error_t) → (P → Q) → OnOk answer P → OnOk answer Q
    ok_then answer f p = grind (arith, nat_tests)

    err_then : {P Q : Type 0} (answer : Result (Unit {0}) yaml_error_t) → (P → Q) → OnErr answer P → OnErr answer Q
    err_then answer f p = grind (arith, nat_tests)

-- one with nodes is emitted
pub dumps_document : (nodeless : Bool) (document : List Event) (before middle after : State) (events : List Event) (answer : Result (Unit {0}) yaml_error_t)
    → nodeless ≡ false → events ≡ document
    → EmitsAll (record before { opened = true }) (opening_unless before.opened) middle → EmitsEach middle events answer after
    → DumpsEvents nodeless document before answer after
dumps_document nodeless document before middle after events answer some same first each =
    let closed = closed_as answer each ∙ first.emits.set.closed in
    dumps_then nodeless document before middle after middle.closed events answer first each
    (ap (λ (b : Bool). opening_unless before.opened ++ (if b then closing_unless before.closed else events)) (sym some)
    ∙ ap (λ (l : List Event). opening_unless before.opened ++ (if nodeless then closing_unless before.closed else l)) same)
    (on_ok answer (closed ∙ sym (ap (λ (b : Bool). before.closed || b) some ∙ or-false before.closed))) (on_err answer closed)
  where
    closed_as : (answer : Result (Unit {0}) yaml_error_t) → EmitsEach middle events answer after → after.closed ≡ middle.closed
    closed_as answer all = grind (arith, nat_tests)

    on_err : {P : Type 0} (answer : Result (Unit {0}) yaml_error_t) → P → OnErr answer P
    on_err answer p = grind (arith, nat_tests)

-- ---- the consequences

-- the promises about the events before and these
pub emits_promised : {before after : State} {events : List Event} {answer : Result (Unit {0}) yaml_error_t} → Emits before events answer after
    → IsPromised after → (given : Settings) (all : List Event) → before.given ≡ given → before.events ≡ all → Promised given (all ++ events) after
emits_promised {before} {after} {events} emits promised given all settings is = grind (arith, nat_tests)

-- the error of the event that failed
pub fails_error : {before after : State} {events : List Event} {error : yaml_error_t} → FailsAt before events error after → after.error ≡ Some error
fails_error {before} {after} {events} {error} fails = some_from_result after.error error fails.emits.answered

-- closing a stream that isn't closed
pub closing_emits : (before after : State) (answer : Result (Unit {0}) yaml_error_t) → before.closed ≡ false → Closes before answer after
    → Emits (record before { closed = is_ok answer }) (stream_end ∷ []) answer after
closing_emits before after answer unclosed closes = subst (λ (b : Bool). ClosesFrom b before answer after) unclosed closes

-- the events that were given
pub each_emits : (before after : State) (events : List Event) (answer : Result (Unit {0}) yaml_error_t) → EmitsEach before events answer after
    → (given : List Event) × Emits before given answer after
each_emits before after events answer all = grind (arith, nat_tests)

-- some event begins the stream
keeps_by : (before after : State) (opened closed : Bool) (events : List Event) (answer : Result (Unit {0}) yaml_error_t)
    → Emits (record before { opened = opened; closed = closed }) events answer after → (events ≡ [] → after ≡ before) → KeepsRest before after
keeps_by before after opened closed events answer emits unchanged = grind (arith, nat_tests, begun)
  where
    begun : (events : List Event) → Emits (record before { opened = opened; closed = closed }) events answer after → (events ≡ [] → after ≡ before)
        → IsBegun before after
    begun events emits unchanged = grind (arith, nat_tests)

keeps_failing : (before after : State) (opened : Bool) (events : List Event) (error : yaml_error_t)
    → FailsAt (record before { opened = opened }) events error after → KeepsRest before after
keeps_failing before after opened events error fails = grind (arith, nat_tests, keeps_by, no_parts)

pub keeps_each : (before after : State) (events : List Event) (answer : Result (Unit {0}) yaml_error_t) → EmitsEach before events answer after
    → KeepsRest before after
keeps_each before after events answer all = grind (arith, nat_tests, keeps_by, keeps_failing)

-- a dump without events opens and closes nothing
opened_none : (opened : Bool) (more : List Event) → opening_unless opened ++ more ≡ [] → opened ≡ true
opened_none opened more x = grind (arith, nat_tests)

closed_none : (opened closed empty : Bool) (events : List Event) → opening_unless opened ++ (if empty then closing_unless closed else events) ≡ []
    → (closed || empty) ≡ closed
closed_none opened closed empty events x = grind (arith, nat_tests, or-false, no_parts, opening_unless)

pub keeps_dumping : (nodeless : Bool) (document : List Event) (before after : State) (answer : Result (Unit {0}) yaml_error_t)
    → DumpsEvents nodeless document before answer after → KeepsRest before after
keeps_dumping nodeless document before after (Ok done) all =
    keeps_by before after true (before.closed || nodeless) (dump_events before nodeless document) (Ok tt) all.emits
    (λ none.
    all.unchanged none
    ∙ ap (λ (b : Bool). record before { opened = b; closed = before.closed || nodeless }) (sym
    (opened_none before.opened (if nodeless then closing_unless before.closed else document) none))
    ∙ ap (λ (b : Bool). record before { closed = b })
    (closed_none before.opened before.closed nodeless (document) none))
keeps_dumping nodeless document before after (Err error) (inl failed) =
    subst (λ (s : State). KeepsRest before s) (sym failed.1)
    (record {
      grows = grows_itself before.page;
      set = record { events = refl; given = refl; started = refl; has_output = refl; opened = refl; closed = refl; taken = refl };
      begun = inl refl;
    })
keeps_dumping nodeless document before after (Err error) (inr dump) =
    keeps_failing before after after.opened (dump_events before nodeless document) error dump.fails

pub opened_by : (nodeless : Bool) (document : List Event) (before after : State) (answer : Result (Unit {0}) yaml_error_t)
    → DumpsEvents nodeless document before answer after → OnOk answer (after.opened ≡ true)
opened_by nodeless document before after answer all = grind (arith, nat_tests)

pub unclosed_failing : (nodeless : Bool) (document : List Event) (before after : State) (error : yaml_error_t)
    → DumpsEvents nodeless document before (Err error) after → after.closed ≡ before.closed
unclosed_failing nodeless document before after error x = grind (arith, nat_tests)
