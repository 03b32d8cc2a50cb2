use Rattle.yaml_writer.proofs.PlainTagLemmas.{plain_tags_read}
use Rattle.yaml_writer.proofs.laws.plain_tags_are_read.Goals as goal

pub returns : goal.returns
returns c = plain_tags_read
