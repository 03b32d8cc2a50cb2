use Rattle.std.specs.Prelude.{◌+◌, chars, take}
use Rattle.std.proofs.Common.{take_all}
use Rattle.yaml_caller.proofs.Common.{[], ◌∷◌, ap}
use Rattle.yaml_writer.proofs.GivenLemmas.{wrote_nothing, wrote_same, wrote_then}
use Rattle.yaml_caller.proofs.ServiceLemmas.{item_more, text_given}
use Rattle.yaml_caller.specs.Service.{text_items, text_scalar}
use Rattle.yaml_caller.proofs.service.write_items.Goals as goal

pub loop-text-init : goal.loop-text-init
loop-text-init g c = wrote_nothing c.args.writer.now c.requires.bare

pub loop-text-preserved : goal.loop-text-preserved
loop-text-preserved g c =
    let so_far = c.loop-text.invariant in
    let texts = c.args.texts.now in
    let shown = c.as_str.result.now in
    wrote_same c.args.writer.now c.text.new.self _ (text_items (take (c.loop-text.text-index + 1) texts))
    (item_more texts c.loop-text.text-index c.text-item.result shown c.loop-text-test.true c.text-item.is c.as_str.ensures.value)
    (wrote_then c.args.writer.now c.loop-text.writer c.text.new.self (text_items (take c.loop-text.text-index texts)) (text_scalar (chars shown) ∷ []) so_far
    (text_given c.loop-text.writer c.text.new.self (chars shown) so_far.bare c.in_ok-text.ensures))

pub returns : goal.returns
returns g c =
    wrote_same c.args.writer.now c.loop-text.writer _ (text_items c.args.texts.now)
    (ap text_items (take_all c.loop-text.text-index c.args.texts.now c.loop-text-test.false)) c.loop-text.invariant
