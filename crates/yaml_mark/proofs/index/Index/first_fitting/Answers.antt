use Rattle.yaml_mark.proofs.Common.{◌∙◌}
use Rattle.yaml_mark.proofs.IndexLemmas.{found_none, found_more, found_all}
use Rattle.yaml_mark.proofs.index.Index.first_fitting.Goals as goal

pub loop-length-init : goal.loop-length-init
loop-length-init g c = λ list finds. found_none c.args.tag.now list

pub loop-length-preserved : goal.loop-length-preserved
loop-length-preserved g c = λ list finds.
    c.earlier-first.ensures
    ∙ found_more c.args.tag.now c.deref-length-items.result.now c.loop-length.length-index c.loop-length-test.true list _ _
    (c.loop-length.invariant list finds) (c.first_of_length.ensures list finds)

pub returns : goal.returns
returns g c = λ list finds.
    c.loop-length.invariant list finds
    ∙ found_all c.args.tag.now c.args.self.now list c.deref-length-items.result.now c.loop-length.length-index
    c.deref-length-items.ensures.value c.loop-length-test.false finds
