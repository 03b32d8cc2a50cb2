use Rattle.std.specs.Prelude.{chars}
use Rattle.yaml_caller.proofs.ServiceLemmas.{keyed, sequence_enclosed, text_given}
use Rattle.yaml_caller.specs.Service.{text_items}
use Rattle.yaml_caller.proofs.service.write_list.Goals as goal

pub returns : goal.returns
returns g c =
    let key = text_given c.args.writer.now c.text.new.self (chars c.args.key.now) c.requires.bare c.in_ok-text.ensures in
    keyed c.args.writer.now c.text.new.self c.end.new.self (chars c.args.key.now) _ c.end.result key
    (sequence_enclosed c.text.new.self c.begin_sequence.new.self c.write_items.new.writer c.end.new.self (text_items c.args.texts.now) c.end.result key.bare
    c.in_ok-begin_sequence.ensures c.in_ok-write_items.ensures c.end.ensures.ended)
