use Rattle.yaml_scalar.proofs.Common.{◌-◌, ◌≤◌, length, take, true, ◌≡◌, list_all, is_free}
use Rattle.yaml_scalar.proofs.classes.free_length_by_fours.Given as goal

abbrev pub invariant-loop-size : goal.invariant-loop-size
invariant-loop-size l =
    record {
      within : l.size ≤ length l.bytes;
      all : list_all (is_free l.classes) (take l.size l.bytes) ≡ true;
    }

abbrev pub decreases-loop-size : goal.decreases-loop-size
decreases-loop-size l = length l.bytes - l.size
