use Rattle.yaml_scalar.proofs.Common.{◌-◌, length}
use Rattle.yaml_scalar.specs.Repeats.{BeginsWithCopies}
use Rattle.yaml_scalar.proofs.repeats.leading_copies.Given as goal

abbrev pub invariant-loop-count : goal.invariant-loop-count
invariant-loop-count l = BeginsWithCopies l.fn.byte l.count l.fn.text

abbrev pub decreases-loop-count : goal.decreases-loop-count
decreases-loop-count l = length l.fn.text - l.count
