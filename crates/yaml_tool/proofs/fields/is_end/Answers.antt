use Rattle.yaml_base.proofs.Common.{not, ap, ◌∙◌}
use Rattle.yaml_tool.proofs.FieldLemmas.{none_left, field_left}
use Rattle.yaml_tool.proofs.fields.is_end.Goals as goal

pub returns-clause-yes : goal.returns-clause-yes
returns-clause-yes c is = none_left c.args.rest (c.is_none.ensures ∙ ap not is)

pub returns-clause-no : goal.returns-clause-no
returns-clause-no c is_not = field_left c.args.rest (c.is_none.ensures ∙ ap not is_not)
