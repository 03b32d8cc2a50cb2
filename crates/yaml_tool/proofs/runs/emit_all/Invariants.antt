use Rattle.yaml_tool.proofs.Common.{true, map, ◌++◌, ◌≡◌, into_iter_items, events_in, LastLine, seen_numbered}
use Rattle.std.specs.Prelude.{Ok}
use Rattle.yaml_emitter.specs.Emits.{Emits, IsPromised}
use Rattle.yaml_tool.proofs.runs.emit_all.Given as goal

abbrev pub invariant-loop-numbered : goal.invariant-loop-numbered
invariant-loop-numbered g l =
    (goal.iterator-loop-numbered g).can_next l.numbered-iterator
    × (goal.iterator-loop-numbered g).is_finite l.numbered-iterator
    × (l.emitter.has_output ≡ true)
    × (l.yielded ++ into_iter_items l.numbered-iterator ≡ l.fn.events.items)
    × Emits l.initial.emitter (events_in (map seen_numbered l.yielded)) (Ok tt) l.emitter
    × IsPromised l.emitter
    × LastLine (map seen_numbered l.yielded) l.last l.emitter
