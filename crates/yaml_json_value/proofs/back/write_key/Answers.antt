use Rattle.std.proofs.Common.{refl}
use Rattle.yaml_json_value.proofs.Untyping.{name_goes, told_goes}
use Rattle.yaml_json_value.proofs.back.write_key.Goals as goal

pub returns : goal.returns
returns g c = λ root value pairs outer walked.
    told_goes root c.args.writer.now c.key.new.self _ _ c.key.result c.told.result c.told.ensures refl
    (name_goes root value c.args.name.now pairs c.args.writer.now c.key.new.self c.key.result outer c.utf8.name walked c.key.ensures)
