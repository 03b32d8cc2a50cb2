use Rattle.yaml_pen.proofs.Common.{IsReady}
use Rattle.yaml_rows.proofs.tests.pens.write_cycles.Given as goal

abbrev pub invariant-cycles : goal.invariant-cycles
invariant-cycles g l = IsReady l.pen
