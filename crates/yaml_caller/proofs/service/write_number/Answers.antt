use Rattle.std.specs.Prelude.{chars}
use Rattle.yaml_caller.proofs.ServiceLemmas.{number_answered}
use Rattle.yaml_caller.proofs.service.write_number.Goals as goal

pub returns : goal.returns
returns g c =
    number_answered c.args.writer.now c.text.new.self c.unsigned.new.self (chars c.args.key.now) c.args.value c.unsigned.result c.requires.bare
    c.in_ok-text.ensures c.unsigned.ensures
