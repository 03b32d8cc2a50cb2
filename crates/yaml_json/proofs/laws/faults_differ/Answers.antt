use Rattle.yaml_json.proofs.SingleFault.{not_deep, not_twice, deep_not_twice}
use Rattle.yaml_json.proofs.laws.faults_differ.Goals as goal

pub returns : goal.returns
returns c depth unique all = (not_deep depth unique all, not_twice depth unique all, deep_not_twice depth unique all)
