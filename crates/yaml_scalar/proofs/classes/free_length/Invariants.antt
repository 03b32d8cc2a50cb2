use Rattle.yaml_scalar.proofs.Common.{◌-◌, ◌≤◌, length, take, true, ◌≡◌, list_all, is_free}
use Rattle.yaml_scalar.proofs.classes.free_length.Given as goal

abbrev pub invariant-loop-length : goal.invariant-loop-length
invariant-loop-length l =
    record {
      within : l.length ≤ length l.fn.text;
      all : list_all (is_free l.fn.classes) (take l.length l.fn.text) ≡ true;
    }

abbrev pub decreases-loop-length : goal.decreases-loop-length
decreases-loop-length l = length l.fn.text - l.length
