use Rattle.yaml_writer.proofs.Common.{sym, ◌∙◌}
use Rattle.yaml_writer.proofs.DoubtfulStarts.{no_form}
use Rattle.yaml_writer.proofs.texts.is_based_or_numeric.Goals as goal

pub returns-else-begins_as_number : goal.returns-else-begins_as_number
returns-else-begins_as_number c = c.if-begins_as_number.false ∙ sym (no_form c.args.text.now (sym c.begins_as_number.ensures ∙ c.if-begins_as_number.false))
