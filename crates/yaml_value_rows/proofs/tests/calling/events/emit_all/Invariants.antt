use Rattle.yaml_base.proofs.Common.{true, ◌≡◌}
use Rattle.yaml_value_rows.proofs.tests.calling.events.emit_all.Given as goal

abbrev pub invariant-loop-event : goal.invariant-loop-event
invariant-loop-event l =
    (goal.iterator-loop-event).can_next l.event-iterator
    × (goal.iterator-loop-event).is_finite l.event-iterator
    × (l.emitter.has_output ≡ true)
