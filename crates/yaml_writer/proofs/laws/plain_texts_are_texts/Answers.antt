use Rattle.yaml_writer.proofs.PlainLemmas.{plain_texts}
use Rattle.yaml_writer.proofs.laws.plain_texts_are_texts.Goals as goal

pub returns : goal.returns
returns c = plain_texts
