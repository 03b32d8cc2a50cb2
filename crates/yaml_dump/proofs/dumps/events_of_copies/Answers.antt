use Rattle.yaml_dump.proofs.Common.{length, length-map, map, ap, ◌∙◌, graph_of}
use Rattle.yaml_base.specs.graphs.SeenNodes.{seen_node}
use Rattle.yaml_dump.proofs.{HoldLemmas.copies_hold, GraphLemmas.dumped_events, GraphLemmas.outline_numbered, GraphLemmas.events_unfold}
use Rattle.yaml_dump.specs.Events.{without_children}
use Rattle.yaml_dump.proofs.dumps.events_of_copies.Goals as goal

pub returns-clause-events : goal.returns-clause-events
returns-clause-events g c =
    let graph = graph_of c.args.document.now in
    let copies = c.in-Ok-copied_nodes.copies.items in
    dumped_events graph c.in-Ok.outline copies c.events_of_walk.result c.requires.nonempty c.in-Ok.ensures
    (copies_hold graph (map seen_node copies) c.in-Ok-copied_nodes.ensures) c.events_of_walk.ensures

pub returns-clause-unfolds : goal.returns-clause-unfolds
returns-clause-unfolds g c =
    events_unfold (graph_of c.args.document.now) c.events_of_walk.result
    (record { whole = c.numbers_name_nodes.ensures; has_nodes = c.requires.nonempty }) (returns-clause-events g c)

pub outline_of-requires : goal.outline_of-requires
outline_of-requires g c = record { nonempty = c.requires.nonempty }

pub events_of_walk-requires : goal.events_of_walk-requires
events_of_walk-requires g c =
    let nodes = (graph_of c.args.document.now).nodes in
    outline_numbered (graph_of c.args.document.now) c.in-Ok.outline c.in-Ok-copied_nodes.copies.items c.in-Ok.ensures
    (ap length c.in-Ok-copied_nodes.ensures ∙ length-map nodes without_children)
