use Rattle.yaml_base.proofs.Common.{drop, ◌≡◌, all_numbers, first_outside}
use Rattle.yaml_base.proofs.documents.outside_nodes.Given as goal

abbrev pub invariant-loop-node : goal.invariant-loop-node
invariant-loop-node g l = first_outside l.count (all_numbers l.nodes) ≡ first_outside l.count (all_numbers (drop l.node-index l.nodes))
