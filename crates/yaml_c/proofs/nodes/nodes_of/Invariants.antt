use Rattle.yaml_c.proofs.Common.{◌≤◌, option_map, drop, length, map, ◌++◌, ◌≡◌}
use Rattle.yaml_base.specs.graphs.SeenNodes.{seen_node}
use Rattle.yaml_c.specs.NodeRecords.{nodes_recorded}
use Rattle.yaml_c.proofs.nodes.nodes_of.Given as goal

abbrev pub invariant-loop-node : goal.invariant-loop-node
invariant-loop-node g l =
    (l.node-index ≤ l.node-index-end)
    × (l.node-index-end ≡ length l.fn.nodes)
    × (nodes_recorded l.fn.arena l.fn.numbers l.fn.nodes
    ≡ option_map (λ more. map seen_node l.all.items ++ more) (nodes_recorded l.fn.arena l.fn.numbers (drop l.node-index l.fn.nodes)))
