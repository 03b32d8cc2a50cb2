use Rattle.yaml_c.proofs.Common.{map, ap, ◌∙◌}
use Rattle.std.proofs.Common.{arith}
use Rattle.yaml_base.specs.Seen.{seen_event}
use Rattle.yaml_base.specs.graphs.Documents.{graph_of}
use Rattle.yaml_c.proofs.NodeLemmas.{one_at_most, two_events, without_ends}
use Rattle.yaml_c.proofs.nodes.root_events.Goals as goal

pub remove-start-requires : goal.remove-start-requires
remove-start-requires g c =
    let all = c.in_ok-events.events in
    let two = two_events (graph_of c.args.document.now) c.requires.some all.items c.in_ok-events.ensures.events in
    omega (arith, two, all.ok.0, c.pop-end.ensures.len, one_at_most c.pop-end.result)

pub returns : goal.returns
returns g c =
    let all = c.in_ok-events.events in
    let graph = graph_of c.args.document.now in
    let two = two_events graph c.requires.some all.items c.in_ok-events.ensures.events in
    ap (map seen_event) c.remove-start.ensures.items
    ∙ without_ends graph c.requires.some all.items c.in_ok-events.ensures.events c.pop-end.new.self.items c.pop-end.result c.pop-end.ensures.items
    (c.pop-end.ensures.variant.1 (omega (arith, two, all.ok.0)))
