use Rattle.yaml_pen.proofs.Common.{IsReady}
use Rattle.yaml_rows.proofs.tests.scalars.items.write_scalars.Given as goal

abbrev pub invariant-scalars : goal.invariant-scalars
invariant-scalars g l = IsReady l.pen
