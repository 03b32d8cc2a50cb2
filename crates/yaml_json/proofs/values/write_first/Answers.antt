use Rattle.yaml_json.specs.WalkSteps.{at}
use Rattle.yaml_json.proofs.{Common.token_of, WalkCalls.first_missing, WalkCalls.first_step}
use Rattle.yaml_json.proofs.values.write_first.Goals as goal

pub returns-clause-steps : goal.returns-clause-steps
returns-clause-steps g c = first_step _ _ _ _ _ _ c.in-Ok.ensures.first _ c.write_token.ensures
