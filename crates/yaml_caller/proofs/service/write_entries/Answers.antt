use Rattle.std.specs.Prelude.{◌+◌, chars, take}
use Rattle.std.proofs.Common.{take_all}
use Rattle.yaml_caller.proofs.Common.{ap}
use Rattle.yaml_writer.proofs.GivenLemmas.{wrote_nothing, wrote_same, wrote_then}
use Rattle.yaml_caller.proofs.ServiceLemmas.{label_more}
use Rattle.yaml_caller.specs.Service.{label_entries, text_entry}
use Rattle.yaml_caller.proofs.service.write_entries.Goals as goal

pub loop-key-init : goal.loop-key-init
loop-key-init g c = wrote_nothing c.args.writer.now c.requires.bare

pub write_text-requires : goal.write_text-requires
write_text-requires g c = record { bare = c.loop-key.invariant.bare }

pub loop-key-preserved : goal.loop-key-preserved
loop-key-preserved g c =
    let labels = c.args.labels.now in
    let key = c.as_str.result.now in
    let value = c.as_str-in-loop-key.result.now in
    wrote_same c.args.writer.now c.write_text.new.writer _ (label_entries (take (c.loop-key.key-index + 1) labels))
    (label_more labels c.loop-key.key-index c.loop-key-item.result key value c.loop-key-test.true c.loop-key-item.is c.as_str.ensures.value
    c.as_str-in-loop-key.ensures.value)
    (wrote_then c.args.writer.now c.loop-key.writer c.write_text.new.writer (label_entries (take c.loop-key.key-index labels))
    (text_entry (chars key) (chars value)) c.loop-key.invariant c.in_ok-write_text.ensures)

pub returns : goal.returns
returns g c =
    wrote_same c.args.writer.now c.loop-key.writer _ (label_entries c.args.labels.now)
    (ap label_entries (take_all c.loop-key.key-index c.args.labels.now c.loop-key-test.false)) c.loop-key.invariant
