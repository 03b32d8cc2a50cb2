use Rattle.yaml_writer.proofs.ShapesAll.{plain_tags_all}
use Rattle.yaml_writer.proofs.laws.plain_tags_are_all.Goals as goal

pub returns : goal.returns
returns c = plain_tags_all
