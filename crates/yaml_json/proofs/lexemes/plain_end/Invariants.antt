use Rattle.yaml_json.proofs.Common.{◌≡◌, ℕ, ◌-◌, ◌<◌, ◌≤◌, false, get_or, length, is_stop}
use Rattle.yaml_json.proofs.lexemes.plain_end.Given as goal

abbrev pub invariant-vectors : goal.invariant-vectors
invariant-vectors l = (l.from ≤ l.at) × (l.at ≤ length l.text) × ((k : ℕ) → l.from ≤ k → k < l.at → is_stop (get_or l.text k 0) ≡ false)

abbrev pub decreases-vectors : goal.decreases-vectors
decreases-vectors l = length l.text - l.at

abbrev pub invariant-bytes : goal.invariant-bytes
invariant-bytes l = (l.from ≤ l.at) × (l.at ≤ length l.text) × ((k : ℕ) → l.from ≤ k → k < l.at → is_stop (get_or l.text k 0) ≡ false)

abbrev pub decreases-bytes : goal.decreases-bytes
decreases-bytes l = length l.text - l.at
