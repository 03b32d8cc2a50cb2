use Rattle.yaml_scalar.proofs.Common.{false, true, refl, stays_where}
use Rattle.yaml_scalar.proofs.ByteRuns.{ascii_only_tells}
use Rattle.yaml_scalar.proofs.double_quoted.ascii_ending_classes.Goals as goal

pub returns-then-folds : goal.returns-then-folds
returns-then-folds c = rw c.if-folds.true (ascii_only_tells 91 (stays_where false true) refl refl)

pub returns-else-folds : goal.returns-else-folds
returns-else-folds c = rw c.if-folds.false (ascii_only_tells 89 (stays_where false false) refl refl)
