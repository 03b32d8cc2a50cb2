use Rattle.yaml_emitter.proofs.EventLives.{event_within}
use Rattle.yaml_emitter.proofs.Common.{◌≤◌, ◌==◌, ◌&&◌, Bool, false, length, awaited, ne_eqb, Err, Ok, Result, true, List, refl, ◌≡◌, ap, subst, sym, ◌∙◌}
use Rattle.yaml_emitter.proofs.Common.{Event, seen_event, seen_events, state_of, is_head_ready, State, machine_of}
use Rattle.yaml_emitter.proofs.{events_done.SeenTexts.seen_scalars, standing.KeepsSet.with_machine}
use Rattle.yaml_emitter.proofs.standing.EmittingEvents.{emits_alone, emits_failed, emits_stopped, emits_waiting, started_with, starting, wrote_alone}
use Rattle.yaml_emitter.proofs.standing.EmitterKept.{awaits_more, has_output_inside, kept_emitting, passes, room_left, seen_more, waits_behind}
use Rattle.yaml_base.specs.declared.errors.{yaml_error_t.yaml_error_t}
use Rattle.yaml_emitter.specs.EmitsEvent.{EmitsEvent, Settled, Settles, StillWait}
use Rattle.yaml_emitter.proofs.engine.Engine.emit.Goals.{else-is_empty-via-then-is_empty+else-followers-eq0, else-is_empty-via-else-is_empty}
use Rattle.yaml_emitter.proofs.engine.Engine.emit.Goals as goal

pub returns-in-Some : goal.returns-in-Some
returns-in-Some g c =
    let before : State = state_of c.self.inside in
    let event = seen_event c.args.event in
    let answer : Result (Unit {0}) yaml_error_t = Err c.in-Some.error in
    subst (λ (l : List Event). EmitsEvent c.args.self.now event answer (started_with before l)) (sym c.with-self-inside.ensures)
    (subst (λ (s : State). EmitsEvent s event answer (starting before event)) c.self.view_is
    (emits_failed event before c.in-Some.error (seen_scalars c.args.event) (sym c.error.ensures ∙ c.in-Some.is)))

pub returns-in-Err : goal.returns-in-Err
returns-in-Err g c =
    let before : State = state_of c.self.inside in
    let event = seen_event c.args.event in
    subst (λ (s : State). EmitsEvent s event (Err c.in-Err.error) c.write_waiting.new.self) c.self.view_is
    (emits_stopped event before c.write_waiting.new.self c.in-Err.error (seen_scalars c.args.event) (sym c.error.ensures ∙ c.in_default.is)
    (subst (λ (r : Result (Unit {0}) yaml_error_t). Settles (starting before event) event r c.write_waiting.new.self) c.in-Err.is
    (subst (λ (l : List Event). Settles (started_with before l) event c.write_waiting.result c.write_waiting.new.self) c.with-self-inside.ensures
    (c.write_waiting.ensures event (sym c.of.ensures)))))

pub invariant_of-self-then-followers-eq0 : goal.invariant_of-self-then-followers-eq0
invariant_of-self-then-followers-eq0 g c =
    let before : State = state_of c.self.inside in
    let event = seen_event c.args.event in
    let settled : State = state_of c.self-2.inside in
    let h : Settled (starting before event) event settled =
    subst (λ (s : State). Settled (starting before event) event s) (sym c.self-2.view_is)
    (subst (λ (r : Result (Unit {0}) yaml_error_t). Settles (starting before event) event r c.write_waiting.new.self) c.in_default-write_waiting.is
    (subst (λ (l : List Event). Settles (started_with before l) event c.write_waiting.result c.write_waiting.new.self) c.with-self-inside.ensures
    (c.write_waiting.ensures event (sym c.of.ensures)))) in
    let output : c.self-2.inside.has_output ≡ true = h.set.has_output ∙ has_output_inside c.self.inside c.self.view_is c.requires in
    kept_emitting c.self-2.inside _ output refl c.self-2.invariant.room c.self-2.invariant.waits

pub returns-then-followers-eq0 : goal.returns-then-followers-eq0
returns-then-followers-eq0 g c =
    let before : State = state_of c.self.inside in
    let event = seen_event c.args.event in
    let settled : State = state_of c.self-2.inside in
    let h : Settled (starting before event) event settled =
    subst (λ (s : State). Settled (starting before event) event s) (sym c.self-2.view_is)
    (subst (λ (r : Result (Unit {0}) yaml_error_t). Settles (starting before event) event r c.write_waiting.new.self) c.in_default-write_waiting.is
    (subst (λ (l : List Event). Settles (started_with before l) event c.write_waiting.result c.write_waiting.new.self) c.with-self-inside.ensures
    (c.write_waiting.ensures event (sym c.of.ensures)))) in
    let output : c.self-2.inside.has_output ≡ true = h.set.has_output ∙ has_output_inside c.self.inside c.self.view_is c.requires in
    let empty : (length c.self-2.inside.queue.items == 0) ≡ true =
    ap (λ q. length q == 0) (sym c.as_slice.ensures.value) ∙ sym c.is_empty.ensures ∙ c.if-is_empty.true in
    let none : (awaited event == 0) ≡ true = ap (λ n. n == 0) (sym c.followers.ensures ∙ c.if-followers-eq0.true) in
    let alone = passes seen_event c.self-2.inside.queue.items event (ap (λ (b : Bool). b && awaited event == 0) empty ∙ none) in
    subst (λ (s : State). EmitsEvent s event c.keep_error.result (with_machine settled settled.held c.keep_error.new.self)) c.self.view_is
    (emits_alone event before settled c.keep_error.new.self c.keep_error.result (seen_scalars c.args.event) (sym c.error.ensures ∙ c.in_default.is)
    h alone.0 alone.1
    (wrote_alone event (machine_of settled) c.process-answer.new.self c.keep_error.new.self c.process-answer.result c.keep_error.result
    h.no_error alone.1 c.process-answer.ensures c.keep_error.ensures.kept c.keep_error.ensures.answered))

pub push_reserved-requires : goal.push_reserved-requires
push_reserved-requires g c = room_left c.self-2.inside c.self-2.invariant

pub invariant_of-self-3 : goal.invariant_of-self-3
invariant_of-self-3 g c =
    let before : State = state_of c.self.inside in
    let event = seen_event c.args.event in
    let settled : State = state_of c.self-2.inside in
    let h : Settled (starting before event) event settled =
    subst (λ (s : State). Settled (starting before event) event s) (sym c.self-2.view_is)
    (subst (λ (r : Result (Unit {0}) yaml_error_t). Settles (starting before event) event r c.write_waiting.new.self) c.in_default-write_waiting.is
    (subst (λ (l : List Event). Settles (started_with before l) event c.write_waiting.result c.write_waiting.new.self) c.with-self-inside.ensures
    (c.write_waiting.ensures event (sym c.of.ensures)))) in
    let output : c.self-2.inside.has_output ≡ true = h.set.has_output ∙ has_output_inside c.self.inside c.self.view_is c.requires in
    let pushed = c.push_reserved.new.self.items in
    let apart : (length c.self-2.inside.queue.items == 0 && awaited event == 0) ≡ false =
    ap (λ q. length q == 0 && awaited event == 0) (sym c.as_slice.ensures.value)
    ∙ elim c.else-is_empty.branch [
      | else-is_empty-via-then-is_empty+else-followers-eq0 w ↦
          ap (λ (b : Bool). b && awaited event == 0) (sym c.is_empty.ensures ∙ w.if-is_empty.true)
          ∙ ap (λ n. n == 0) (sym w.followers.ensures) ∙ ne_eqb _ _ w.if-followers-eq0.false
      | else-is_empty-via-else-is_empty w ↦ ap (λ (b : Bool). b && awaited event == 0) (sym c.is_empty.ensures ∙ w.if-is_empty.false)
    ] in
    kept_emitting c.self-2.inside _ output refl
    (subst (λ n. 4 ≤ n) (sym c.push_reserved.ensures.capacity) c.self-2.invariant.room)
    (ap is_head_ready (seen_more seen_event c.self-2.inside.queue.items pushed pushed c.args.event refl c.push_reserved.ensures.items)
    ∙ waits_behind settled.held event (subst (λ (l : List Event). StillWait l event) (sym h.held) h.wrote.waits)
    (awaits_more seen_event c.self-2.inside.queue.items _ apart))

pub returns : goal.returns
returns g c =
    let before : State = state_of c.self.inside in
    let event = seen_event c.args.event in
    let settled : State = state_of c.self-2.inside in
    let h : Settled (starting before event) event settled =
    subst (λ (s : State). Settled (starting before event) event s) (sym c.self-2.view_is)
    (subst (λ (r : Result (Unit {0}) yaml_error_t). Settles (starting before event) event r c.write_waiting.new.self) c.in_default-write_waiting.is
    (subst (λ (l : List Event). Settles (started_with before l) event c.write_waiting.result c.write_waiting.new.self) c.with-self-inside.ensures
    (c.write_waiting.ensures event (sym c.of.ensures)))) in
    let output : c.self-2.inside.has_output ≡ true = h.set.has_output ∙ has_output_inside c.self.inside c.self.view_is c.requires in
    let pushed = c.push_reserved.new.self.items in
    let apart : (length c.self-2.inside.queue.items == 0 && awaited event == 0) ≡ false =
    ap (λ q. length q == 0 && awaited event == 0) (sym c.as_slice.ensures.value)
    ∙ elim c.else-is_empty.branch [
      | else-is_empty-via-then-is_empty+else-followers-eq0 w ↦
          ap (λ (b : Bool). b && awaited event == 0) (sym c.is_empty.ensures ∙ w.if-is_empty.true)
          ∙ ap (λ n. n == 0) (sym w.followers.ensures) ∙ ne_eqb _ _ w.if-followers-eq0.false
      | else-is_empty-via-else-is_empty w ↦ ap (λ (b : Bool). b && awaited event == 0) (sym c.is_empty.ensures ∙ w.if-is_empty.false)
    ] in
    let held = seen_events pushed in
    let more = seen_more seen_event c.self-2.inside.queue.items pushed pushed c.args.event refl c.push_reserved.ensures.items in
    subst (λ (s : State). EmitsEvent s event (Ok tt) (record settled { held = held })) c.self.view_is
    (emits_waiting event before settled held (seen_scalars c.args.event) (sym c.error.ensures ∙ c.in_default.is)
    h more
    (ap is_head_ready more
    ∙ waits_behind settled.held event (subst (λ (l : List Event). StillWait l event) (sym h.held) h.wrote.waits)
    (awaits_more seen_event c.self-2.inside.queue.items _ apart)))

pub with-self-inside-requires : goal.with-self-inside-requires
with-self-inside-requires g c κs within = event_within _ _ within
