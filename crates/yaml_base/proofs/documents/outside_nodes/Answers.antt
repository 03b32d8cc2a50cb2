use Rattle.yaml_base.proofs.{Common.sym, Common.◌∙◌, Common.arith, NumbersOutside.held_outside, NumbersOutside.none_held}
use Rattle.yaml_base.proofs.documents.outside_nodes.Goals as goal

pub returns-then-is_some : goal.returns-then-is_some
returns-then-is_some g c =
    sym (c.loop-node.invariant ∙ held_outside c.args.count c.loop-node.node-index c.args.nodes.now c.node-item.result c.outside_node-outside.result
    (omega arith) c.node-item.is c.outside_node-outside.ensures (sym c.is_some.ensures ∙ c.if-is_some.true))

pub loop-node-preserved : goal.loop-node-preserved
loop-node-preserved g c =
    c.loop-node.invariant ∙ none_held c.args.count c.loop-node.node-index c.args.nodes.now c.node-item.result c.outside_node-outside.result
    (omega arith) c.node-item.is c.outside_node-outside.ensures (sym c.is_some.ensures ∙ c.if-is_some.false)
