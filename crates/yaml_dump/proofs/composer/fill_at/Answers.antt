use Rattle.std.proofs.Common.{arith, map}
use Rattle.std.proofs.lemmas.Result.{IfOk-weaker}
use Rattle.yaml_base.specs.graphs.SeenNodes.{seen_number}
use Rattle.yaml_dump.proofs.ComposerLemmas.{filled_so}
use Rattle.yaml_dump.proofs.composer.fill_at.Goals as goal

pub returns : goal.returns
returns g c =
    IfOk-weaker c.fill.result _ _
    (λ done is. filled_so c.args.nodes.now.items c.args.place c.index_mut.result.now c.fill.new.node (map seen_number c.args.children.items)
    (omega (arith, c.if-place-len.false)) c.index_mut.ensures.value is) c.fill.ensures
