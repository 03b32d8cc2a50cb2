use Rattle.std.proofs.Common.{◌≡◌, ◌≤◌, drop, length, ◌-◌}
use Rattle.yaml_c.specs.Answers.{overwritten}
use Rattle.yaml_c.proofs.buffers.move_out.Given as goal

abbrev pub invariant-loop-bytes : goal.invariant-loop-bytes
invariant-loop-bytes g l =
    (l.kept ≤ length l.bytes.items)
    × (length l.bytes.items - l.kept ≤ length l.out)
    × (overwritten (drop l.kept l.bytes.items) l.out ≡ overwritten (drop l.kept l.initial.bytes.items) l.initial.out)

abbrev pub decreases-loop-bytes : goal.decreases-loop-bytes
decreases-loop-bytes g l = length l.bytes.items
