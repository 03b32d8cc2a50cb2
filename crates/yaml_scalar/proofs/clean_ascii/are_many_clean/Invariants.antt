use Rattle.yaml_scalar.proofs.Common.{ℕ, ◌-◌, ◌<◌, ◌≤◌, false, length, slice_index, ◌≡◌}
use Rattle.yaml_scalar.specs.CleanBytes.{is_unclean}
use Rattle.yaml_scalar.proofs.clean_ascii.are_many_clean.Given as goal

abbrev pub invariant-loop-place : goal.invariant-loop-place
invariant-loop-place l = (l.place ≤ length l.bytes) × ((k : ℕ) → k < l.place → is_unclean (slice_index l.bytes k) ≡ false)

abbrev pub decreases-loop-place : goal.decreases-loop-place
decreases-loop-place l = length l.bytes - l.place
