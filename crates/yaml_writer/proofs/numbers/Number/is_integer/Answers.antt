use Rattle.yaml_writer.proofs.Common.{ap, ◌∙◌, is_json_integer}
use Rattle.yaml_writer.proofs.numbers.Number.is_integer.Goals as goal

pub returns : goal.returns
returns c = c.is_integer.ensures ∙ ap is_json_integer c.parts.ensures
