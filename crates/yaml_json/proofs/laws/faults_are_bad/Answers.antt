use Rattle.yaml_json.proofs.BadFaults.{faults_are_bad}
use Rattle.yaml_json.proofs.laws.faults_are_bad.Goals as goal

pub returns : goal.returns
returns c = faults_are_bad
