use Rattle.yaml_dump.proofs.Common.{None, Ok, true, [], map, ◌++◌, ◌≡◌, into_iter_items, seen_event}
use Rattle.yaml_emitter.specs.Emits.{Emits}
use Rattle.yaml_dump.specs.EventForms.{event_in_form}
use Rattle.yaml_dump.proofs.emitting.emit_in_form.Given as goal

abbrev pub invariant-loop-event : goal.invariant-loop-event
invariant-loop-event g l =
    (goal.iterator-loop-event g).can_next l.event-iterator
    × (goal.iterator-loop-event g).is_finite l.event-iterator
    × (l.emitter.has_output ≡ true)
    × (l.emitter.error ≡ None)
    × (l.yielded ++ into_iter_items l.event-iterator ≡ l.fn.events.items)
    × Emits l.initial.emitter (map (event_in_form l.fn.form) (map seen_event l.yielded)) (Ok tt) l.emitter
    × (map seen_event l.yielded ≡ [] → l.emitter ≡ l.initial.emitter)
