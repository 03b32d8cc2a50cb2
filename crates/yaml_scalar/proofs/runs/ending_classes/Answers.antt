use Rattle.yaml_scalar.proofs.Common.{false, true, refl}
use Rattle.yaml_scalar.proofs.ByteRuns.{line_tells}
use Rattle.yaml_scalar.proofs.runs.ending_classes.Goals as goal

pub returns-in-true-true : goal.returns-in-true-true
returns-in-true-true c = rw (c.in-true-true.is-0, c.in-true-true.is-1) (line_tells 7 true true refl refl refl)

pub returns-in-true-false : goal.returns-in-true-false
returns-in-true-false c = rw (c.in-true-false.is-0, c.in-true-false.is-1) (line_tells 3 true false refl refl refl)

pub returns-in-false-true : goal.returns-in-false-true
returns-in-false-true c = rw (c.in-false-true.is-0, c.in-false-true.is-1) (line_tells 5 false true refl refl refl)

pub returns-in-false-false : goal.returns-in-false-false
returns-in-false-false c = rw (c.in-false-false.is-0, c.in-false-false.is-1) (line_tells 1 false false refl refl refl)
