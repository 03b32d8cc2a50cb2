use Rattle.std.proofs.Common.{None, refl}
use Rattle.yaml_json.proofs.OpenBrackets.{closed_there}
use Rattle.yaml_json.proofs.expecting.shallower.Goals as goal

pub returns-then-depth-deep-clause-is : goal.returns-then-depth-deep-clause-is
returns-then-depth-deep-clause-is c kinds is = closed_there _ _ _ _ is c.if-depth-deep.true c.saturating_sub-count.ensures refl
