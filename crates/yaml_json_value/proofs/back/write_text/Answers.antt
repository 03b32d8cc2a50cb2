use Rattle.std.proofs.Common.{refl}
use Rattle.yaml_json_value.proofs.Untyping.{text_goes, told_goes}
use Rattle.yaml_json_value.proofs.back.write_text.Goals as goal

pub returns : goal.returns
returns g c = λ root outer walked.
    told_goes root c.args.writer.now c.string.new.self outer outer c.string.result c.told.result c.told.ensures refl
    (text_goes root c.args.text.now c.args.writer.now c.string.new.self c.string.result outer c.utf8.text walked c.string.ensures)
