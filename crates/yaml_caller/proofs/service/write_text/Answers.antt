use Rattle.std.specs.Prelude.{chars}
use Rattle.yaml_caller.proofs.ServiceLemmas.{texts_answered}
use Rattle.yaml_caller.proofs.service.write_text.Goals as goal

pub returns : goal.returns
returns g c =
    texts_answered c.args.writer.now c.text.new.self c.text-2.new.self (chars c.args.key.now) (chars c.args.value.now) c.text-2.result c.requires.bare
    c.in_ok-text.ensures c.text-2.ensures
