use Rattle.yaml_emitter.proofs.Common.{common_steps, rules, Err, Ok, drop, true, List, [], map, ◌++◌, ◌∷◌, refl, ◌≡◌, ap, subst, sym, ◌∙◌, arith, drop-map}
use Rattle.yaml_emitter.proofs.Common.{length-map, Event, seen_event, seen_events, is_head_ready, Processed, false≢true}
use Rattle.std.proofs.lemmas.List.{drop_all}
use Rattle.yaml_emitter.proofs.standing.Emitting.{processed_error, seen_behind}
use Rattle.yaml_emitter.proofs.standing.Growing.{grows_page, processed_grows}
use Rattle.yaml_emitter.proofs.standing.KeepsSet.{keeps_given_same, keeps_given_then, processed_keeps_given}
use Rattle.yaml_emitter.proofs.standing.WritingAll.{failed_one_more, wrote_one_more}
use Rattle.yaml_emitter.specs.EmitsEvent.{StillWait}
use Rattle.yaml_pen.proofs.Composing.{grows_then}
use Rattle.yaml_emitter.proofs.machine.Machine.write_ready.Goals as goal

pub events-init : goal.events-init
events-init g c =
    record {
      within = omega arith;
      reached = λ last stands given all prefix reached. (prefix, reached);
      unready = λ last stands h. refl;
      error = c.requires;
      set = keeps_given_same c.args.self.now;
      grows = grows_page _ _ refl;
    }

pub events-preserved : goal.events-preserved
events-preserved g c =
    let waiting = seen_events c.args.waiting.now in
    let n = c.events.count in
    let event = seen_event c.first_and_rest.result.0.now in
    let rest = seen_events c.first_and_rest.result.1.now in
    let split : drop n waiting ≡ event ∷ rest = sym (seen_behind seen_event c.args.waiting.now n) ∙ c.first_and_rest.ensures in
    let empty = c.closes_at_once-empty.result in
    record {
      within = omega (arith, c.events-test.true);
      reached = λ last stands.
          wrote_one_more waiting n last event rest c.args.self.now c.events.self c.process.new.self (c.events.invariant.reached last stands) split
          (sym (c.is_ready.ensures last stands) ∙ c.if-not-is_ready.false)
          (subst (λ e. Processed event e c.events.self c.process.new.self (Ok tt)) (c.closes_at_once-empty.ensures last stands) c.in_default.ensures);
      unready = λ last stands h.
          let first = c.events.invariant.unready last stands h in
          let ready : is_head_ready (drop n waiting ++ last ∷ []) ≡ true =
          ap (λ l. is_head_ready (l ++ last ∷ [])) split ∙ sym (c.is_ready.ensures last stands) ∙ c.if-not-is_ready.false in
          absurd (false≢true (sym h ∙ ap (λ k. is_head_ready (drop k waiting ++ last ∷ [])) (sym first) ∙ ready));
      error = processed_error event empty c.events.self c.process.new.self (Ok tt) c.in_default.ensures ∙ c.events.invariant.error;
      set =
          keeps_given_then c.args.self.now c.events.self c.process.new.self c.events.invariant.set
          (processed_keeps_given event empty c.events.self c.process.new.self (Ok tt) c.in_default.ensures);
      grows = grows_then c.events.invariant.grows (processed_grows event empty c.events.self c.process.new.self (Ok tt) c.in_default.ensures);
    }

pub returns-then-not-is_ready-clause-written : goal.returns-then-not-is_ready-clause-written
returns-then-not-is_ready-clause-written g c = λ last stands.
    let n = c.events.count in
    let split = sym (seen_behind seen_event c.args.waiting.now n) ∙ c.first_and_rest.ensures in
    record {
      within = omega (arith, c.events.invariant.within, length-map c.args.waiting.now seen_event);
      reached = c.events.invariant.reached last stands;
      waits = subst (λ (l : List Event). StillWait l last) (sym split) (sym (c.is_ready.ensures last stands) ∙ c.if-not-is_ready.true);
    }

pub returns-in-Err-clause-failed : goal.returns-in-Err-clause-failed
returns-in-Err-clause-failed g c last stands =
    let waiting = seen_events c.args.waiting.now in
    let event = seen_event c.first_and_rest.result.0.now in
    let split = sym (seen_behind seen_event c.args.waiting.now c.events.count) ∙ c.first_and_rest.ensures in
    failed_one_more waiting c.events.count last event (seen_events c.first_and_rest.result.1.now) c.args.self.now c.events.self c.process.new.self
    c.in-Err.error (c.events.invariant.reached last stands) split (sym (c.is_ready.ensures last stands) ∙ c.if-not-is_ready.false)
    (subst (λ e. Processed event e c.events.self c.process.new.self (Err c.in-Err.error)) (c.closes_at_once-empty.ensures last stands) c.in-Err.ensures)

pub returns-in-Err-clause-waits : goal.returns-in-Err-clause-waits
returns-in-Err-clause-waits g c last stands h =
    let waiting = seen_events c.args.waiting.now in
    let n = c.events.count in
    let split = sym (seen_behind seen_event c.args.waiting.now n) ∙ c.first_and_rest.ensures in
    let first = c.events.invariant.unready last stands h in
    let ready : is_head_ready (drop n waiting ++ last ∷ []) ≡ true =
    ap (λ l. is_head_ready (l ++ last ∷ [])) split ∙ sym (c.is_ready.ensures last stands) ∙ c.if-not-is_ready.false in
    absurd (false≢true (sym h ∙ ap (λ k. is_head_ready (drop k waiting ++ last ∷ [])) (sym first) ∙ ready))

pub returns-in-Err-clause-grows : goal.returns-in-Err-clause-grows
returns-in-Err-clause-grows g c = first_of (search (rules, grows_then, processed_grows), grind (arith, common_steps, grows_then, processed_grows))

pub returns-in-Err-clause-set : goal.returns-in-Err-clause-set
returns-in-Err-clause-set g c =
    first_of (search (rules, keeps_given_then, processed_keeps_given), grind (arith, common_steps, keeps_given_then, processed_keeps_given))

pub returns-clause-written : goal.returns-clause-written
returns-clause-written g c = λ last stands.
    let n = c.events.count in
    let none : drop n (seen_events c.args.waiting.now) ≡ [] =
    drop-map seen_event n c.args.waiting.now ∙ ap (map seen_event) (drop_all n c.args.waiting.now (omega (arith, c.events-test.false))) in
    record {
      within = omega (arith, c.events.invariant.within, length-map c.args.waiting.now seen_event);
      reached = c.events.invariant.reached last stands;
      waits = subst (λ (l : List Event). StillWait l last) (sym none) tt;
    }

pub returns-clause-waits : goal.returns-clause-waits
returns-clause-waits g c last stands h = ap (λ n. Ok n) (c.events.invariant.unready last stands h)
