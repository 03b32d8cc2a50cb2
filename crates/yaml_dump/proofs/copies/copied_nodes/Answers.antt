use Rattle.yaml_dump.proofs.Common.{◌<◌, length, map, ap, ◌∙◌, arith, graph_of}
use Rattle.yaml_base.specs.graphs.SeenNodes.{seen_node}
use Rattle.std.proofs.{Common.take_all, lemmas.Result.IfOk-from_err}
use Rattle.yaml_dump.specs.Events.{without_children}
use Rattle.yaml_dump.proofs.HoldLemmas.{copied_more, some_next}
use Rattle.yaml_dump.proofs.copies.copied_nodes.Goals as goal
use Rattle.yaml_dump.proofs.copies.copied_nodes.Goals.{in-Some+in-Ok-copied_node+in_ok-push, in_default-node_of}

pub loop-before-init : goal.loop-before-init
loop-before-init g c = ap (map seen_node) c.in-Ok.ensures.items

pub returns-in_err-push : goal.returns-in_err-push
returns-in_err-push g c = IfOk-from_err c.from_residual.result _ c.from_residual.ensures.0

pub returns : goal.returns
returns g c =
    c.loop-before.invariant
    ∙ ap (map without_children)
    (take_all c.loop-before.before (graph_of c.args.document.now).nodes (omega (arith, c.loop-before-test.false, c.count_of-count.ensures.all)))

pub loop-before-preserved : goal.loop-before-preserved
loop-before-preserved g c =
    let graph = graph_of c.args.document.now in
    let before = c.loop-before.before in
    let inside : before < length graph.nodes = omega (arith, c.loop-before-test.true, c.count_of-count.ensures.all) in
    elim c.match-node_of.branch [
      | in-Some+in-Ok-copied_node+in_ok-push w ↦
          ap (λ copies. map seen_node copies.items) w.copies-is
          ∙ copied_more graph before c.loop-before.copies.items w.push.new.self.items w.in-Ok-copied_node.copy (seen_node w.in-Some.node.now)
          w.in-Some.ensures c.loop-before.invariant w.in_ok-push.ensures.items w.in-Ok-copied_node.ensures
      | in_default-node_of w ↦ absurd (some_next graph before inside w.in_default-node_of.ensures)
    ]
