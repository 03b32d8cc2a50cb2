use Rattle.yaml_json.proofs.Common.{◌-◌, length, HasScanned}
use Rattle.yaml_json.proofs.cuts.find_end.Given as goal

abbrev pub invariant-bytes : goal.invariant-bytes
invariant-bytes l = HasScanned l.text l.next

abbrev pub decreases-bytes : goal.decreases-bytes
decreases-bytes l = length l.text - l.next.scanned
