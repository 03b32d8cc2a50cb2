use Rattle.yaml_json.proofs.ExpectedThere.{expected_is_possible}
use Rattle.yaml_json.proofs.laws.expected_is_possible.Goals as goal

pub returns : goal.returns
returns c text at place next = expected_is_possible text at place next
