use Rattle.std.proofs.Common.{◌-◌, ◌≤◌, length}
use Rattle.yaml_json.proofs.OpenBrackets.{StandsBefore}
use Rattle.yaml_json.proofs.expecting.front_of.Given as goal

abbrev pub invariant-bytes : goal.invariant-bytes
invariant-bytes l = StandsBefore l.bytes l.deep l.at l.front × (l.front.depth.count ≤ l.at)

abbrev pub decreases-bytes : goal.decreases-bytes
decreases-bytes l = length l.bytes - l.at
