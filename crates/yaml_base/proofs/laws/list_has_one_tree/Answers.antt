use Rattle.yaml_base.proofs.Trees.{one_tree}
use Rattle.yaml_base.proofs.laws.list_has_one_tree.Goals as goal

pub returns : goal.returns
returns c = one_tree
