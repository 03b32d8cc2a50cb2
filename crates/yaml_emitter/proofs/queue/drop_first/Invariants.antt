use Rattle.yaml_emitter.proofs.Common.{◌≤◌, vec_len, vec_capacity, drop, ◌≡◌, seen_events}
use Rattle.yaml_emitter.proofs.queue.drop_first.Given as goal

abbrev pub invariant-events : goal.invariant-events
invariant-events g l =
    record {
      within : l.left ≤ vec_len l.queue;
      rest : drop l.left (seen_events l.queue.items) ≡ drop l.count (seen_events l.initial.queue.items);
      room : vec_capacity l.queue ≡ vec_capacity l.initial.queue;
    }

abbrev pub decreases-events : goal.decreases-events
decreases-events g l = l.left
