-- The events that wait are written one after another.
use Rattle.yaml_emitter.proofs.Common.{suc, ℕ, ◌+◌, ◌-◌, if◌then◌else◌, None, Result, Err, Ok, drop, length, take, Bool, false, true, List, [], map, ◌++◌}
use Rattle.yaml_emitter.proofs.Common.{◌∷◌, refl, ◌≡◌, drop-drop, ap, subst, sym, ◌∙◌, arith, drop-map, written-append, Event, sequence_start}
use Rattle.yaml_emitter.proofs.Common.{is_ready, written, held_back, Settings, closes_at_once, Processed, is_head_ready, StandsWithoutError}
use Rattle.yaml_emitter.proofs.Common.{MachineStands, StateStands, HasReached, ReachedOn, ProcessedFirst, State, MachineState, machine_of}
use Rattle.std.proofs.lemmas.List.{take_rest}
use Rattle.yaml_base.specs.declared.errors.{yaml_error_t.yaml_error_t, yaml_error_t.TheVariants.Memory, yaml_error_t.TheVariants.WriteError}
use Rattle.yaml_emitter.proofs.standing.{Standing.reached_first, StandingFailed.reached_failed, StandingPromises.stands_well, StandingSteps.reached_next}
use Rattle.yaml_emitter.proofs.standing.{StandingSteps.reached_end}
use Rattle.yaml_emitter.specs.StandsAfter.{FailedReady}

-- The first of the events that wait was ready.
took_ready : (waiting : List Event) (before after : MachineState) (answer : Result (Unit {0}) yaml_error_t) (h : ProcessedFirst waiting before after answer)
    → is_head_ready waiting ≡ true → is_ready h.event h.rest ≡ true
took_ready waiting before after answer h ready = subst (λ r. is_head_ready r ≡ true) h.waits ready

-- Processing an event keeps the machine's error.
pub processed_error : (event : Event) (empty : Bool) (before after : MachineState) (answer : Result (Unit {0}) yaml_error_t)
    → Processed event empty before after answer → after.error ≡ before.error
processed_error event empty before after (Ok _) done = ap (λ (m : MachineState). m.error) done.kept
processed_error event empty before after (Err WriteError) done = ap (λ (m : MachineState). m.error) done.kept
processed_error event empty before after (Err Memory) done = ap (λ (m : MachineState). m.error) done.kept
processed_error event empty before after (Err error) done = ap (λ (m : MachineState). m.error) done.kept

pub took_next : (waiting : List Event) (before after : MachineState) → ProcessedFirst waiting before after (Ok tt) → is_head_ready waiting ≡ true
    → ReachedOn waiting before (drop 1 waiting) after
took_next waiting before after h ready given all prefix reached =
    let at : HasReached given all prefix (h.event ∷ h.rest) before = subst (λ r. HasReached given all prefix r before) h.waits reached in
    let on : HasReached given all (prefix ++ h.event ∷ []) h.rest after =
    reached_next given all prefix h.rest h.event before after at (took_ready waiting before after (Ok tt) h ready) h.done in
    (prefix ++ h.event ∷ [], subst (λ r. HasReached given all (prefix ++ h.event ∷ []) r after) (sym (ap (drop 1) h.waits)) on)

pub took_failed : (waiting : List Event) (before after : MachineState) (error : yaml_error_t) → ProcessedFirst waiting before after (Err error)
    → is_head_ready waiting ≡ true → FailedReady waiting error before after
took_failed waiting before after error h ready given all prefix reached =
    let at : HasReached given all prefix (h.event ∷ h.rest) before = subst (λ r. HasReached given all prefix r before) h.waits reached in
    reached_failed given all prefix h.rest h.event before after error at (took_ready waiting before after (Err error) h ready) h.done

-- Two ways of a machine, one after the other, are one way.
pub reached_on : (first second third : List Event) (before between after : MachineState) → ReachedOn first before second between
    → ReachedOn second between third after → ReachedOn first before third after
reached_on first second third before between after h h' given all prefix reached =
    let at = h given all prefix reached in
    h' given all at.0 at.1

-- The events after the first ones.
pub seen_behind : {E : Type 0} (seen : E → Event) (xs : List E) (n : ℕ) → map seen (take (length xs - n) (drop n xs)) ≡ drop n (map seen xs)
seen_behind seen xs n = ap (map seen) (take_rest xs n) ∙ sym (drop-map seen n xs)

pub next_behind : (waiting : List Event) (n : ℕ) (before after : MachineState) → ReachedOn (drop n waiting) before (drop 1 (drop n waiting)) after
    → ReachedOn (drop n waiting) before (drop (n + 1) waiting) after
next_behind waiting n before after on = subst (λ left. ReachedOn (drop n waiting) before left after) (drop-drop 1 n waiting) on

-- An event that was taken follows the waiting ones.
pub reached_taken : (given : Settings) (all : List Event) (event : Event) (state : State) → StateStands given all state → state.error ≡ None
    → HasReached given (all ++ event ∷ []) (take (written all) all) (state.held ++ event ∷ []) (machine_of state)
reached_taken given all event state h none = reached_first given all event state.held (machine_of state) (stands_well given all state h none)

unready : (b : Bool) (n : ℕ) → (if b then suc n else 0) ≡ 0 → b ≡ false
unready true n h = cc
unready false n h = refl

head_unready : (rest : List Event) → written rest ≡ 0 → is_head_ready rest ≡ false
head_unready [] h = refl
head_unready (first ∷ rest) h = unready (is_ready first rest) (written rest) h

-- If no event became ready, the first waiting event isn't ready.
pub none_became_ready : (given : Settings) (all : List Event) (event : Event) (before : State) → StateStands given all before → before.error ≡ None
    → written (all ++ event ∷ []) ≡ written all → is_head_ready (before.held ++ event ∷ []) ≡ false
none_became_ready given all event before h none same =
    let well : StandsWithoutError given all before.held (machine_of before) = stands_well given all before h none in
    let count : written (all ++ event ∷ []) ≡ written all + written (held_back all ++ event ∷ []) = written-append all (event ∷ []) in
    subst (λ held. is_head_ready (held ++ event ∷ []) ≡ false) (sym well.held)
    (head_unready (held_back all ++ event ∷ []) (omega (arith, count, same)))

-- Nothing follows a single event.
pub closes_none : (event : Event) → closes_at_once event [] ≡ false
closes_none (sequence_start _) = refl
closes_none _ = refl

-- Processing an event while none waits takes the first of a queue that holds it alone.
pub took_alone : (event : Event) (before after : MachineState) (answer : Result (Unit {0}) yaml_error_t)
    → Processed event false before after answer → ProcessedFirst (event ∷ []) before after answer
took_alone event before after answer done =
    record {
      event = event;
      rest = [];
      waits = refl;
      done = subst (λ (b : Bool). Processed event b before after answer) (sym (closes_none event)) done;
    }

-- If no more is ready, the machine's state is the one after all events.
pub stands_on_end : (given : Settings) (all prefix rest : List Event) (machine : MachineState) → HasReached given all prefix rest machine → machine.error ≡ None
    → is_head_ready rest ≡ false → MachineStands given all machine.error rest machine
stands_on_end given all prefix rest machine at none unready =
    subst (λ e. MachineStands given all e rest machine) (sym none) (reached_end given all prefix rest machine at unready)
