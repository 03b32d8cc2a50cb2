use Rattle.yaml_emitter.proofs.{Common.◌∙◌, pieces.WritingScalars.empty_value}
use Rattle.yaml_emitter.proofs.writing.scalars.is_empty_value.Goals as goal

pub returns : goal.returns
returns c = c.is_empty.ensures ∙ empty_value c.args.value.now c.utf8.value
