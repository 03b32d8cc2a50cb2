use Rattle.yaml_pen.proofs.Common.{IsReady}
use Rattle.yaml_rows.proofs.tests.pens.put_letters.Given as goal

abbrev pub invariant-letters : goal.invariant-letters
invariant-letters g l = IsReady l.pen
