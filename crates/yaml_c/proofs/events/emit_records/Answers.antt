use Rattle.yaml_c.proofs.Common.{ℕ, List, ◌<◌, ◌≤◌, None, drop, length, refl, rules, ◌≡◌, inl, ap, subst, sym, ◌∙◌, State, events_from}
use Rattle.std.proofs.Common.{Err, Ok}
use Rattle.yaml_c.proofs.EmissionLemmas.{bad_next, given_more, refused_next, ended_all}
use Rattle.yaml_base.specs.scripts.Script.{Numbered}
use Rattle.yaml_c.proofs.GivingLemmas.{took, took_bad, took_nothing}
use Rattle.yaml_pen.proofs.Writing.{none_from_result}
use Rattle.yaml_tool.proofs.RunLemmas.{fails_after, is_after}
use Rattle.yaml_tool.specs.Runs.{IsAfter}
use Rattle.yaml_c.proofs.events.emit_records.Goals as goal

pub returns-in-Emitted-Err-clause-emits : goal.returns-in-Emitted-Err-clause-emits
returns-in-Emitted-Err-clause-emits g c new =
    let now = c.loop-record in
    let has = now.invariant.5 in
    let event = took c.give_record-giving.result (Err c.in-Emitted-Err.error) c.give_record-giving.ensures.gave (search rules) in
    inl
    (refused_next c.args.arena.now c.args.directives.now c.args.events.now c.args.emitter.now now.emitter c.give_record-giving.new.emitter now.record-index
    now.number now.last _ event.0 c.in-Emitted-Err.error has now.invariant.4 c.loop-record-test.true (sym event.1)
    (fails_after (is_after new has.emits has.promised) now.invariant.3 event.2.emits c.promised-in-loop-record.ensures.promised))

pub loop-record-preserved : goal.loop-record-preserved
loop-record-preserved g c =
    let now = c.loop-record in
    let has = now.invariant.5 in
    let event = took c.give_record-giving.result (Ok tt) c.give_record-giving.ensures.gave (search rules) in
    let emits = event.2.emits in
    let after = c.give_record-giving.new.emitter in (
      search rules,
      refl,
      emits.set.has_output ∙ now.invariant.2,
      none_from_result after.error emits.answered,
      search rules,
      given_more c.args.arena.now c.args.directives.now c.args.events.now c.args.emitter.now now.emitter after now.record-index now.number now.last _ event.0
          has now.invariant.4 c.loop-record-test.true (sym event.1) emits c.promised-in-loop-record.ensures.promised,
    )

pub returns-clause-emits : goal.returns-clause-emits
returns-clause-emits g c new =
    let now = c.loop-record in
    let within : now.record-index ≤ length c.args.events.now = search rules in
    ended_all c.args.arena.now c.args.directives.now c.args.events.now c.args.emitter.now now.emitter c.flush_last-emission.new.emitter now.record-index
    now.last c.flush_last-emission.result now.invariant.5 within c.loop-record-test.false now.invariant.3 new c.promised-2.ensures.promised
    c.flush_last-emission.ensures.flushed

pub returns-in-NoMemory-clause-emits : goal.returns-in-NoMemory-clause-emits
returns-in-NoMemory-clause-emits g c new =
    let now = c.loop-record in
    let has = now.invariant.5 in
    let same : now.emitter ≡ c.give_record-giving.new.emitter =
    sym (took_nothing _ c.give_record-giving.result c.give_record-giving.ensures.gave c.in-NoMemory.is) in
    record {
      earlier = has.given;
      later = events_from now.record-index c.args.arena.now c.args.directives.now (drop now.record-index c.args.events.now);
      parts = has.parts;
      first = now.invariant.4 ∙ sym has.count;
      within = subst (λ (n : ℕ). n < length c.args.events.now) (sym now.invariant.4) c.loop-record-test.true;
      after = subst (λ (state : State). IsAfter c.args.emitter.now.given has.given state) same (is_after new has.emits has.promised);
      no_error = subst (λ (state : State). state.error ≡ None) same now.invariant.3;
    }

pub returns-in-Unreadable-clause-emits : goal.returns-in-Unreadable-clause-emits
returns-in-Unreadable-clause-emits g c new =
    let now = c.loop-record in
    let has = now.invariant.5 in
    let bad = took_bad _ c.give_record-giving.result c.give_record-giving.ensures.gave c.in-Unreadable.is in
    let read : List Numbered = events_from 0 c.args.arena.now c.args.directives.now c.args.events.now in
    let all : read ≡ has.given =
    bad_next c.args.arena.now c.args.directives.now c.args.events.now now.record-index _ has.given c.loop-record-test.true bad.0 has.parts in
    record {
      first = now.invariant.4 ∙ sym has.count ∙ ap length (sym all);
      within = subst (λ (n : ℕ). n < length c.args.events.now) (sym now.invariant.4) c.loop-record-test.true;
      after = subst (λ (state : State). IsAfter c.args.emitter.now.given read state) (sym bad.1)
          (subst (λ (events : List Numbered). IsAfter c.args.emitter.now.given events now.emitter) (sym all) (is_after new has.emits has.promised));
      no_error = ap (λ (state : State). state.error) bad.1 ∙ now.invariant.3;
    }
