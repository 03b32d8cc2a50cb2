use Rattle.yaml_json.proofs.Common.{◌-◌, ◌≤◌, length, HasScanned}
use Rattle.yaml_json.proofs.cuts.pass_vectors.Given as goal

abbrev pub invariant-vectors : goal.invariant-vectors
invariant-vectors l = HasScanned l.text l.next × (l.fn.cut.scanned ≤ l.next.scanned)

abbrev pub decreases-vectors : goal.decreases-vectors
decreases-vectors l = length l.text - l.next.scanned
