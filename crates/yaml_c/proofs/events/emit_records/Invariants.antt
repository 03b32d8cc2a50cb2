use Rattle.yaml_c.proofs.Common.{◌≤◌, None, length, true, ◌≡◌}
use Rattle.yaml_c.proofs.EmissionLemmas.{HasGiven}
use Rattle.yaml_c.proofs.events.emit_records.Given as goal

abbrev pub invariant-loop-record : goal.invariant-loop-record
invariant-loop-record g l =
    (l.record-index ≤ l.record-index-end)
    × (l.record-index-end ≡ length l.fn.events)
    × (l.emitter.has_output ≡ true)
    × (l.emitter.error ≡ None)
    × (l.number ≡ l.record-index)
    × HasGiven l.fn.arena l.fn.directives l.fn.events l.initial.emitter l.record-index l.last l.emitter
