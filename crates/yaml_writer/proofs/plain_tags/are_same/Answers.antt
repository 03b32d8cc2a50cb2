use Rattle.yaml_writer.proofs.{Common.◌∙◌, PlainTagLemmas.same_bytes}
use Rattle.yaml_writer.proofs.plain_tags.are_same.Goals as goal

pub returns : goal.returns
returns c = c.eq.ensures ∙ same_bytes c.args.a.now c.args.b.now c.utf8.a c.utf8.b
