use Rattle.yaml_read.proofs.Common.{Some, length, map, Utf8, shadow, seen_event, seen_awaits}
use Rattle.yaml_read.proofs.EventRuns.{RunBegun, RunDue}
use Rattle.yaml_read.proofs.runs.read_root.Given as goal

abbrev pub invariant-steps : goal.invariant-steps
invariant-steps g l =
    shadow (Utf8 l.rest) × RunBegun l.fn.text (map seen_event l.events.items) (seen_awaits l.awaits.items) l.rest
    × RunDue l.fn.text (map seen_event l.events.items) (Some (seen_awaits l.awaits.items)) l.rest

abbrev pub decreases-steps : goal.decreases-steps
decreases-steps g l = length l.rest
