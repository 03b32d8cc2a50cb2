use Rattle.yaml_dump.proofs.Common.{take, map, ◌≡◌, graph_of}
use Rattle.yaml_base.specs.graphs.SeenNodes.{seen_node}
use Rattle.yaml_dump.specs.Events.{without_children}
use Rattle.yaml_dump.proofs.copies.copied_nodes.Given as goal

abbrev pub invariant-loop-before : goal.invariant-loop-before
invariant-loop-before g l = map seen_node l.copies.items ≡ map without_children (take l.before (graph_of l.document).nodes)
