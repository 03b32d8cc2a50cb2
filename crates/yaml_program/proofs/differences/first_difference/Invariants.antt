use Rattle.std.proofs.Common.{◌+◌, ◌≤◌, length}
use Rattle.yaml_program.specs.Differences.{BeginAlike}
use Rattle.yaml_program.proofs.differences.first_difference.Given as goal

abbrev pub invariant-loop-old_later : goal.invariant-loop-old_later
invariant-loop-old_later l = BeginAlike l.fn.old l.fn.new l.number l.old_rest l.new_rest × (l.number + length l.old_rest ≤ length l.fn.old + 1)

abbrev pub decreases-loop-old_later : goal.decreases-loop-old_later
decreases-loop-old_later l = length l.old_rest
