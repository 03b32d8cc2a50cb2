use Rattle.yaml_emitter.proofs.Common.{length, drop, ◌≡◌, seen_events}
use Rattle.yaml_emitter.specs.Queue.{are_ready_by_one_more}
use Rattle.yaml_emitter.proofs.queue.are_ready_by_one_more.Given as goal

abbrev pub invariant-loop-event : goal.invariant-loop-event
invariant-loop-event g l =
    record {
      left : l.left ≡ length (drop l.event-index l.waiting);
      what_is_left : are_ready_by_one_more (seen_events (drop l.event-index l.waiting)) ≡ are_ready_by_one_more (seen_events l.waiting);
    }
