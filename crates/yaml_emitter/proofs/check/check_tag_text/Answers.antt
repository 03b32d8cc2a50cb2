use Rattle.yaml_emitter.proofs.Common.{sym}
use Rattle.yaml_mark.proofs.TagLemmas.{empty_tag, good_tag}
use Rattle.yaml_emitter.proofs.check.check_tag_text.Goals as goal

pub returns-then-is_empty : goal.returns-then-is_empty
returns-then-is_empty c = empty_tag c.args.tag.now (sym c.if-is_empty.ensures)

pub returns-else-is_empty : goal.returns-else-is_empty
returns-else-is_empty c = good_tag c.args.tag.now c.utf8.tag (sym c.if-is_empty.ensures)
