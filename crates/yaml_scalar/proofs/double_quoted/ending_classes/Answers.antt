use Rattle.yaml_scalar.proofs.Common.{false, true, refl}
use Rattle.yaml_scalar.proofs.ByteRuns.{unicode_tells}
use Rattle.yaml_scalar.proofs.double_quoted.ending_classes.Goals as goal

pub returns-then-not-unicode : goal.returns-then-not-unicode
returns-then-not-unicode c = rw c.if-not-unicode.true c.ascii_ending_classes.ensures

pub returns-then-folds : goal.returns-then-folds
returns-then-folds c = rw (c.if-not-unicode.false, c.if-folds.true) (unicode_tells 75 true refl refl refl refl)

pub returns-else-folds : goal.returns-else-folds
returns-else-folds c = rw (c.if-not-unicode.false, c.if-folds.false) (unicode_tells 73 false refl refl refl refl)
