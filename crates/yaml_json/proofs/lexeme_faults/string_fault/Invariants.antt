use Rattle.yaml_json.proofs.Common.{◌≡◌, ◌-◌, ◌≤◌, drop, length, content_fault}
use Rattle.yaml_json.proofs.lexeme_faults.string_fault.Given as goal

abbrev pub invariant-characters : goal.invariant-characters
invariant-characters l = (l.at ≤ length l.text) × (content_fault 0 (drop l.at l.text) ≡ content_fault 0 (drop l.from l.text))

abbrev pub decreases-characters : goal.decreases-characters
decreases-characters l = length l.text - l.at
