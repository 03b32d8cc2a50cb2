use Rattle.yaml_read.proofs.Common.{◌≡◌, ◌+◌, ◌-◌, ◌≤◌, drop, length, prefix_len, is_alpha}
use Rattle.yaml_read.proofs.names.name_length.Given as goal

abbrev pub invariant-letters : goal.invariant-letters
invariant-letters l = (l.count ≤ length l.bytes) × (prefix_len is_alpha l.bytes ≡ l.count + prefix_len is_alpha (drop l.count l.bytes))

abbrev pub decreases-letters : goal.decreases-letters
decreases-letters l = length l.bytes - l.count
