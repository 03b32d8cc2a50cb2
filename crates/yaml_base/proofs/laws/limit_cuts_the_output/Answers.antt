use Rattle.yaml_base.proofs.CallerLaws.{limit_cuts}
use Rattle.yaml_base.proofs.laws.limit_cuts_the_output.Goals as goal

pub returns : goal.returns
returns c = limit_cuts
