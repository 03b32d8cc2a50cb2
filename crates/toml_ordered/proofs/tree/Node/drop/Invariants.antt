use Rattle.toml_ordered.proofs.Common.{◌+◌, node_count}
use Rattle.toml_ordered.proofs.Counts.{turns}
use Rattle.toml_ordered.proofs.tree.Node.drop.Given as goal

abbrev pub decreases-nodes : goal.decreases-nodes
decreases-nodes l = turns (node_count l.hand + node_count l.around) (node_count l.hand)
