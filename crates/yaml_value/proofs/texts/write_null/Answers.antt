use Rattle.yaml_value.proofs.Common.{codes, refl, chars, chars-literal}
use Rattle.yaml_value.proofs.TextSteps.{scalar_written}
use Rattle.yaml_value.proofs.texts.write_null.Goals as goal

pub returns : goal.returns
returns g c =
    scalar_written c.write_scalar.result c.args.bytes.now.items c.write_scalar.new.bytes.items (codes "!!null ") (chars (codes "null")) (codes "null") refl
    (chars-literal (codes "null") refl) c.write_scalar.ensures
