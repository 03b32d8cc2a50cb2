use Rattle.yaml_json.proofs.Common.{◌-◌, ◌≤◌, length, HasScanned}
use Rattle.yaml_json.proofs.cuts.pass_bytes.Given as goal

abbrev pub invariant-bytes : goal.invariant-bytes
invariant-bytes l = HasScanned l.text l.next × (l.fn.cut.scanned ≤ l.next.scanned)

abbrev pub decreases-bytes : goal.decreases-bytes
decreases-bytes l = length l.text - l.next.scanned
