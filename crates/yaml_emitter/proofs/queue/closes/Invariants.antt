use Rattle.yaml_emitter.proofs.Common.{◌≤◌, drop, List, ◌++◌, ◌≡◌, Event, seen_events}
use Rattle.yaml_emitter.proofs.standing.WrittenPrefixes.{closed_by}
use Rattle.yaml_emitter.proofs.queue.closes.Given as goal

abbrev pub invariant-loop-event : goal.invariant-loop-event
invariant-loop-event g l =
    record {
      in_range : l.depth ≤ l.event-index;
      what_is_left : (tail : List Event)
          → closed_by l.depth (seen_events (drop l.event-index l.rest) ++ tail) ≡ closed_by 0 (seen_events l.rest ++ tail);
    }
