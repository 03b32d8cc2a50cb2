use Rattle.yaml_emitter.proofs.Common.{◌+◌, drop, length, nat_lt, ◌&&◌, Bool, true, ◌≡◌, ap, sym, ◌∙◌, arith, awaited, le-ltb, seen_event, seen_events}
use Rattle.std.proofs.lemmas.{Bool.lt-ltb, List.length-drop}
use Rattle.yaml_emitter.proofs.standing.WritingAll.{ready_from}
use Rattle.yaml_emitter.specs.Queue.{are_ready_by_one_more}
use Rattle.yaml_emitter.proofs.queue.are_ready_by_one_more.Goals as goal

pub returns-then-followers-left : goal.returns-then-followers-left
returns-then-followers-left g c =
    let waiting = c.args.waiting.now in
    let i = c.loop-event.event-index in
    let x = seen_event c.event-item.result in
    sym
    (sym c.loop-event.invariant.what_is_left
    ∙ ready_from seen_event waiting i c.event-item.result c.loop-event-test.true c.event-item.is
    ∙ ap (λ (b : Bool). b && are_ready_by_one_more (seen_events (drop (i + 1) waiting)))
    (le-ltb (awaited x) (length (drop i waiting) + 1) (omega (arith, c.followers.ensures, c.if-followers-left.true, c.loop-event.invariant.left))))

pub loop-event-preserved : goal.loop-event-preserved
loop-event-preserved g c =
    let waiting = c.args.waiting.now in
    let i = c.loop-event.event-index in
    let x = seen_event c.event-item.result in
    let behind = are_ready_by_one_more (seen_events (drop (i + 1) waiting)) in
    let enough : nat_lt (awaited x) (length (drop i waiting) + 1) ≡ true =
    lt-ltb (awaited x) (length (drop i waiting) + 1) (omega (arith, c.followers.ensures, c.if-followers-left.false, c.loop-event.invariant.left)) in
    record {
      left = omega (arith, c.loop-event.invariant.left, length-drop i waiting, length-drop (i + 1) waiting, c.loop-event-test.true);
      what_is_left =
          sym
          (ready_from seen_event waiting i c.event-item.result c.loop-event-test.true c.event-item.is
          ∙ ap (λ (b : Bool). b && behind) enough)
          ∙ c.loop-event.invariant.what_is_left;
    }
