use Rattle.std.specs.Prelude.{chars}
use Rattle.yaml_caller.proofs.ServiceLemmas.{keyed, mapping_enclosed, text_given}
use Rattle.yaml_caller.specs.Service.{label_entries}
use Rattle.yaml_caller.proofs.service.write_labels.Goals as goal

pub returns : goal.returns
returns g c =
    let key = text_given c.args.writer.now c.text.new.self (chars c.args.key.now) c.requires.bare c.in_ok-text.ensures in
    keyed c.args.writer.now c.text.new.self c.end.new.self (chars c.args.key.now) _ c.end.result key
    (mapping_enclosed c.text.new.self c.begin_mapping.new.self c.write_entries.new.writer c.end.new.self (label_entries c.args.labels.now) c.end.result key.bare
    c.in_ok-begin_mapping.ensures c.in_ok-write_entries.ensures c.end.ensures.ended)
