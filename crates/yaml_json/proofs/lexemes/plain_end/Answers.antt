use Rattle.std.proofs.Common.{arith}
use Rattle.yaml_json.proofs.Lanes.{vector_plain, vector_stops}
use Rattle.yaml_json.proofs.lexemes.plain_end.Goals as goal

pub returns-then-found-ne0 : goal.returns-then-found-ne0
returns-then-found-ne0 c = vector_stops _ _ _ _ (omega arith) (omega arith) c.vectors.invariant.2 c.stops-found.ensures (omega arith)

pub vectors-preserved : goal.vectors-preserved
vectors-preserved c = (
  omega arith,
  omega arith,
  vector_plain c.args.text.now c.args.from c.vectors.at (omega arith) c.vectors.invariant.2 (omega (arith, c.stops-found.ensures)),
)
