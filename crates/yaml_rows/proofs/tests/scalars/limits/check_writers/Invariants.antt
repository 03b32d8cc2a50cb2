use Rattle.yaml_pen.proofs.Common.{IsReady}
use Rattle.yaml_rows.proofs.tests.scalars.limits.check_writers.Given as goal

abbrev pub invariant-values : goal.invariant-values
invariant-values g l = IsReady l.pen
