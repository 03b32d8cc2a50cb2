use Rattle.std.proofs.Common.{inl}
use Rattle.yaml_emitter.proofs.Common.{Result, Err, Event, List, true, false, [], refl, ◌≡◌, ap}
use Rattle.yaml_emitter.proofs.Common.{subst, sym, ◌∙◌, scalar, seen_events, seen_scalar, state_of, State, machine_of}
use Rattle.yaml_base.specs.declared.errors.{yaml_error_t.yaml_error_t}
use Rattle.yaml_emitter.proofs.{standing.EmitterKept.has_output_inside, standing.EmitterKept.kept_emitting, standing.KeepsSet.with_machine}
use Rattle.yaml_emitter.proofs.standing.EmittingEvents.{emits_alone, emits_failed, emits_stopped, started_with, starting, wrote_alone}
use Rattle.yaml_emitter.proofs.standing.WritingAll.{none_waits_on}
use Rattle.yaml_emitter.specs.{EmitsEvent.EmitsEvent, EmitsEvent.Settled, EmitsEvent.Settles, Queue.are_ready_by_one_more}
use Rattle.yaml_emitter.proofs.engine.Engine.emit_scalar.Goals as goal

pub returns-in-Some-clause-emits : goal.returns-in-Some-clause-emits
returns-in-Some-clause-emits g c =
    let before : State = state_of c.self.inside in
    let event = scalar (seen_scalar c.args.content.now) in
    let answer : Result (Unit {0}) yaml_error_t = Err c.in-Some.error in
    inl (subst (λ (l : List Event). EmitsEvent c.args.self.now event answer (started_with before l)) (sym c.with-self-inside.ensures)
    (subst (λ (s : State). EmitsEvent s event answer (starting before event)) c.self.view_is
    (emits_failed event before c.in-Some.error c.texts_are_scalars.ensures (sym c.error.ensures ∙ c.in-Some.is))))

pub returns-in-Err-clause-emits : goal.returns-in-Err-clause-emits
returns-in-Err-clause-emits g c =
    let before : State = state_of c.self.inside in
    let event = scalar (seen_scalar c.args.content.now) in
    inl (subst (λ (s : State). EmitsEvent s event (Err c.in-Err.error) c.write_waiting.new.self) c.self.view_is
    (emits_stopped event before c.write_waiting.new.self c.in-Err.error c.texts_are_scalars.ensures (sym c.error.ensures ∙ c.in_default.is)
    (subst (λ (r : Result (Unit {0}) yaml_error_t). Settles (starting before event) event r c.write_waiting.new.self) c.in-Err.is
    (subst (λ (l : List Event). Settles (started_with (state_of c.self.inside) l) event c.write_waiting.result c.write_waiting.new.self)
    c.with-self-inside-then-are_ready_by_one_more.ensures (c.write_waiting.ensures event refl)))))

pub returns-in-Err-clause-output : goal.returns-in-Err-clause-output
returns-in-Err-clause-output g c =
    let event = scalar (seen_scalar c.args.content.now) in
    let h : Settles (starting (state_of c.self.inside) event) event (Err c.in-Err.error) c.write_waiting.new.self =
    subst (λ (r : Result (Unit {0}) yaml_error_t). Settles (starting (state_of c.self.inside) event) event r c.write_waiting.new.self) c.in-Err.is
    (subst (λ (l : List Event). Settles (started_with (state_of c.self.inside) l) event c.write_waiting.result c.write_waiting.new.self)
    c.with-self-inside-then-are_ready_by_one_more.ensures (c.write_waiting.ensures event refl)) in
    h.set.has_output ∙ has_output_inside c.self.inside c.self.view_is c.requires

pub invariant_of-self-then-are_ready_by_one_more-2 : goal.invariant_of-self-then-are_ready_by_one_more-2
invariant_of-self-then-are_ready_by_one_more-2 g c =
    let before : State = state_of c.self.inside in
    let event = scalar (seen_scalar c.args.content.now) in
    let settled : State = state_of c.self-then-are_ready_by_one_more.inside in
    let h : Settled (starting before event) event settled =
    subst (λ (s : State). Settled (starting before event) event s) (sym c.self-then-are_ready_by_one_more.view_is)
    (subst (λ (r : Result (Unit {0}) yaml_error_t). Settles (starting before event) event r c.write_waiting.new.self) c.in_default-write_waiting.is
    (subst (λ (l : List Event). Settles (started_with (state_of c.self.inside) l) event c.write_waiting.result c.write_waiting.new.self)
    c.with-self-inside-then-are_ready_by_one_more.ensures (c.write_waiting.ensures event refl))) in
    let output : c.self-then-are_ready_by_one_more.inside.has_output ≡ true =
    h.set.has_output ∙ has_output_inside c.self.inside c.self.view_is c.requires in
    kept_emitting c.self-then-are_ready_by_one_more.inside _ output refl c.self-then-are_ready_by_one_more.invariant.room
    c.self-then-are_ready_by_one_more.invariant.waits

pub returns-then-are_ready_by_one_more-clause-emits : goal.returns-then-are_ready_by_one_more-clause-emits
returns-then-are_ready_by_one_more-clause-emits g c =
    let before : State = state_of c.self.inside in
    let event = scalar (seen_scalar c.args.content.now) in
    let settled : State = state_of c.self-then-are_ready_by_one_more.inside in
    let h : Settled (starting before event) event settled =
    subst (λ (s : State). Settled (starting before event) event s) (sym c.self-then-are_ready_by_one_more.view_is)
    (subst (λ (r : Result (Unit {0}) yaml_error_t). Settles (starting before event) event r c.write_waiting.new.self) c.in_default-write_waiting.is
    (subst (λ (l : List Event). Settles (started_with (state_of c.self.inside) l) event c.write_waiting.result c.write_waiting.new.self)
    c.with-self-inside-then-are_ready_by_one_more.ensures (c.write_waiting.ensures event refl))) in
    let ready : are_ready_by_one_more before.held ≡ true =
    ap (λ q. are_ready_by_one_more (seen_events q)) (sym c.as_slice.ensures.value) ∙ sym c.are_ready_by_one_more.ensures ∙ c.if-are_ready_by_one_more.true in
    let alone : settled.held ≡ [] = h.held ∙ none_waits_on h.count before.held (seen_scalar c.args.content.now) ready h.wrote.waits in
    inl (subst (λ (s : State). EmitsEvent s event c.keep_error.result (with_machine settled settled.held c.keep_error.new.self)) c.self.view_is
    (emits_alone event before settled c.keep_error.new.self c.keep_error.result c.texts_are_scalars.ensures (sym c.error.ensures ∙ c.in_default.is)
    h alone refl
    (wrote_alone event (machine_of settled) c.scalar-answer.new.self c.keep_error.new.self c.scalar-answer.result c.keep_error.result
    h.no_error refl (c.scalar-answer.ensures false) c.keep_error.ensures.kept c.keep_error.ensures.answered)))

pub returns-then-are_ready_by_one_more-clause-output : goal.returns-then-are_ready_by_one_more-clause-output
returns-then-are_ready_by_one_more-clause-output g c =
    let before : State = state_of c.self.inside in
    let event = scalar (seen_scalar c.args.content.now) in
    let settled : State = state_of c.self-then-are_ready_by_one_more.inside in
    let h : Settled (starting before event) event settled =
    subst (λ (s : State). Settled (starting before event) event s) (sym c.self-then-are_ready_by_one_more.view_is)
    (subst (λ (r : Result (Unit {0}) yaml_error_t). Settles (starting before event) event r c.write_waiting.new.self) c.in_default-write_waiting.is
    (subst (λ (l : List Event). Settles (started_with (state_of c.self.inside) l) event c.write_waiting.result c.write_waiting.new.self)
    c.with-self-inside-then-are_ready_by_one_more.ensures (c.write_waiting.ensures event refl))) in
    let output : c.self-then-are_ready_by_one_more.inside.has_output ≡ true =
    h.set.has_output ∙ has_output_inside c.self.inside c.self.view_is c.requires in
    output
