use Rattle.yaml_base.proofs.CallerLaws.{tree_found}
use Rattle.yaml_base.proofs.laws.tree_is_found.Goals as goal

pub returns : goal.returns
returns c = tree_found
