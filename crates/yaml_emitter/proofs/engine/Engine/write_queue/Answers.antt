use Rattle.yaml_emitter.proofs.Common.{◌≤◌, drop, List, [], ◌++◌, ◌∷◌, refl, ◌≡◌, ap, subst, sym, ◌∙◌, Event, seen_event, seen_events, is_head_ready, state_of}
use Rattle.yaml_emitter.proofs.Common.{State, machine_of}
use Rattle.yaml_emitter.proofs.standing.{EmittingEvents.settles_failed, EmittingEvents.settles_written, KeepsSet.with_machine}
use Rattle.yaml_emitter.proofs.standing.EmitterKept.{has_output_inside, kept_emitting, some_last, waits_without, within_count}
use Rattle.yaml_emitter.specs.{EmitsEvent.StillWait, EmitsEvent.Settled, EmitsEvent.SettlingFailed, EmitsEvent.WroteWaiting}
use Rattle.yaml_emitter.specs.StandsAfter.{FailedReady}
use Rattle.yaml_emitter.proofs.engine.Engine.write_queue.Goals as goal

pub release-requires : goal.release-requires
release-requires g c =
    let some = some_last c.args.next in
    within_count seen_event c.as_slice.result.now c.in-Ok.written _ (c.in-Ok.ensures.written some.0 some.1).within c.as_slice.ensures.len

pub invariant_of-self : goal.invariant_of-self
invariant_of-self g c =
    let some = some_last c.args.next in
    let wrote = c.in-Ok.ensures.written some.0 some.1 in
    kept_emitting c.self.inside _ (has_output_inside c.self.inside c.self.view_is c.requires.output) refl
    (subst (λ n. 4 ≤ n) (sym c.release.ensures.room) c.self.invariant.room)
    (waits_without (seen_events c.release.new.queue.items) some.0
    (subst (λ (l : List Event). StillWait l some.0)
    (sym (c.release.ensures.rest ∙ ap (λ q. drop c.in-Ok.written (seen_events q)) (sym c.as_slice.ensures.value))) wrote.waits))

pub invariant_of-self-in-Err : goal.invariant_of-self-in-Err
invariant_of-self-in-Err g c =
    kept_emitting c.self.inside _ (has_output_inside c.self.inside c.self.view_is c.requires.output) refl
    (subst (λ n. 4 ≤ n) (sym c.clear.ensures.capacity) c.self.invariant.room)
    (ap (λ q. is_head_ready (seen_events q)) c.clear.ensures.items)

pub returns-in-Ok : goal.returns-in-Ok
returns-in-Ok g c = λ last stands.
    let before : State = state_of c.self.inside in
    let waiting : seen_events c.as_slice.result.now ≡ before.held = ap seen_events c.as_slice.ensures.value in
    let machine = c.write_ready.new.self in
    subst (λ (s : State). Settled s last (with_machine before (seen_events c.release.new.queue.items) machine)) c.self.view_is
    (settles_written before last (seen_events c.release.new.queue.items) machine c.write_ready.result c.in-Ok.written c.in-Ok.is c.release.ensures.rest
    (subst (λ (l : List Event). WroteWaiting l last c.in-Ok.written (machine_of before) machine) waiting (c.in-Ok.ensures.written last stands))
    (λ unready. c.write_ready.ensures.waits last stands (ap (λ (l : List Event). is_head_ready (l ++ last ∷ [])) waiting ∙ unready))
    c.write_ready.ensures.grows c.write_ready.ensures.set c.write_ready.ensures.error)

pub returns-in-Err : goal.returns-in-Err
returns-in-Err g c = λ last stands.
    let before : State = state_of c.self.inside in
    let waiting : seen_events c.as_slice.result.now ≡ before.held = ap seen_events c.as_slice.ensures.value in
    let held = seen_events c.clear.new.self.items in
    subst (λ (s : State). SettlingFailed s last c.in-Err.error (with_machine before held c.fail.new.self)) c.self.view_is
    (settles_failed before last held c.write_ready.new.self c.fail.new.self c.write_ready.result c.in-Err.error c.in-Err.is
    (ap seen_events c.clear.ensures.items) c.fail.ensures
    (subst (λ (l : List Event). FailedReady (l ++ last ∷ []) c.in-Err.error (machine_of before) c.write_ready.new.self) waiting
    (c.in-Err.ensures.failed last stands))
    (λ unready. c.write_ready.ensures.waits last stands (ap (λ (l : List Event). is_head_ready (l ++ last ∷ [])) waiting ∙ unready))
    c.write_ready.ensures.grows c.write_ready.ensures.set)
