use Rattle.yaml_c.proofs.Common.{◌+◌, option_map, drop, List, [], map, ◌++◌, ◌∷◌, ◌≡◌, rules, ap, sym, ◌∙◌}
use Rattle.std.proofs.{Common.arith, Common.refl, lemmas.List.map_push}
use Rattle.yaml_base.specs.graphs.{Meetings.GraphNode, SeenNodes.seen_node}
use Rattle.yaml_c.proofs.ReadingLemmas.{behind, read_all, read_bad, read_more, read_none}
use Rattle.yaml_c.specs.NodeRecords.{node_recorded, nodes_recorded}
use Rattle.yaml_c.proofs.nodes.nodes_of.Goals as goal

pub loop-node-preserved : goal.loop-node-preserved
loop-node-preserved g c =
    let now = c.loop-node in
    let arena = c.args.arena.now in
    let numbers = c.args.numbers.now in
    let records = c.args.nodes.now in
    let read : List GraphNode = map seen_node now.all.items in
    let pushed : map seen_node c.push.new.self.items ≡ read ++ seen_node c.in-Ok-Some.node ∷ [] =
    ap (map seen_node) c.in_ok-push-in-Ok-Some.ensures.items ∙ map_push seen_node now.all.items c.in-Ok-Some.node in
    let more = read_more (node_recorded arena numbers) records now.node-index _ read (seen_node c.in-Ok-Some.node) c.loop-node-test.true
    (ap (option_map seen_node) (sym c.in-Ok-Some.field-0-is) ∙ c.in-Ok-Some.ensures) now.invariant.2 in (
      search rules,
      search rules,
      more ∙ ap (λ (xs : List GraphNode). behind xs (nodes_recorded arena numbers (drop (now.node-index + 1) records))) (sym pushed),
    )

pub loop-node-init : goal.loop-node-init
loop-node-init g c = (
  omega arith,
  refl,
  read_none (node_recorded c.args.arena.now c.args.numbers.now) c.args.nodes.now (map seen_node c.new-all.result.items)
      (ap (map seen_node) c.new-all.ensures.items),
)

pub loop-node-smaller : goal.loop-node-smaller
loop-node-smaller g c = let more = c.loop-node-test.true in omega (arith, more)

pub returns-in-Ok-None : goal.returns-in-Ok-None
returns-in-Ok-None g c =
    let now = c.loop-node in
    read_bad (node_recorded c.args.arena.now c.args.numbers.now) c.args.nodes.now now.node-index _ (map seen_node now.all.items) c.loop-node-test.true
    (ap (option_map seen_node) (sym c.in-Ok-None.field-0-is) ∙ c.in-Ok-None.ensures) now.invariant.2

pub returns : goal.returns
returns g c =
    let now = c.loop-node in
    read_all (node_recorded c.args.arena.now c.args.numbers.now) c.args.nodes.now now.node-index (map seen_node now.all.items) c.loop-node-test.false
    now.invariant.2
