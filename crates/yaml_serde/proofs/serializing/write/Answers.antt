use Rattle.yaml_serde.proofs.Common.{Form, subst}
use Rattle.yaml_serde.specs.ValueCalls.{GivesValue}
use Rattle.yaml_serde.proofs.serializing.write.Goals as goal

pub returns : goal.returns
returns g c =
    subst (λ (form : Form). GivesValue form c.args.writer.now c.write_with.result c.write_with.new.writer) c.default.ensures.form c.write_with.ensures
