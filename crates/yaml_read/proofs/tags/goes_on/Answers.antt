use Rattle.yaml_read.proofs.{Common.not, Common.ap, Common.◌∙◌, TagTexts.goes_on_behind, TagTexts.goes_on_never}
use Rattle.yaml_read.proofs.tags.goes_on.Goals as goal

pub returns-in-Some : goal.returns-in-Some
returns-in-Some c = ap not c.is_empty.ensures ∙ goes_on_behind _ c.args.prefix.now c.in-Some.rest.now c.requires c.utf8.text c.in-Some.ensures.cut

pub returns-in-None : goal.returns-in-None
returns-in-None c = goes_on_never c.args.text.now c.args.prefix.now c.requires c.utf8.text c.in-None.ensures.cut
