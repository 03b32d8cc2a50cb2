use Rattle.yaml_dump.proofs.Common.{length, map, ap, sym, ◌∙◌, graph_of}
use Rattle.yaml_base.specs.graphs.SeenNodes.{seen_node}
use Rattle.yaml_dump.proofs.{HoldLemmas.holds_own, GraphLemmas.dumped_events, GraphLemmas.outline_numbered}
use Rattle.yaml_dump.proofs.dumps.moved_events.Goals as goal

pub returns : goal.returns
returns g c =
    let graph = graph_of c.args.document in
    let nodes = c.into_nodes-nodes.result.items in
    dumped_events graph c.in-Ok.outline nodes c.events_of_walk.result (sym c.is_empty.ensures ∙ c.if-is_empty.false) c.in-Ok.ensures
    (holds_own graph (map seen_node nodes) c.into_nodes-nodes.ensures) c.events_of_walk.ensures

pub outline_of-requires : goal.outline_of-requires
outline_of-requires g c = record { nonempty = sym c.is_empty.ensures ∙ c.if-is_empty.false }

pub events_of_walk-requires : goal.events_of_walk-requires
events_of_walk-requires g c =
    outline_numbered (graph_of c.args.document) c.in-Ok.outline c.into_nodes-nodes.result.items c.in-Ok.ensures (ap length c.into_nodes-nodes.ensures)
