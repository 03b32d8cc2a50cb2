use Rattle.yaml_c.proofs.Common.{◌≤◌, option_map, drop, length, map, ◌++◌, ◌≡◌}
use Rattle.std.proofs.Common.{◌-◌}
use Rattle.yaml_base.specs.graphs.SeenNodes.{seen_pair}
use Rattle.yaml_c.specs.NodeRecords.{pairs_recorded}
use Rattle.yaml_c.proofs.nodes.pairs_of.Given as goal

abbrev pub invariant-pairs : goal.invariant-pairs
invariant-pairs g l =
    (l.at ≤ length l.fn.numbers)
    × (pairs_recorded l.fn.numbers ≡ option_map (λ more. map seen_pair l.pairs.items ++ more) (pairs_recorded (drop l.at l.fn.numbers)))

abbrev pub decreases-pairs : goal.decreases-pairs
decreases-pairs g l = length l.fn.numbers - l.at
