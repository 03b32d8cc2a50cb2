use Rattle.yaml_base.proofs.NumbersRead as lemma
use Rattle.yaml_writer.proofs.laws.numbers_are_read.Goals as goal

pub returns : goal.returns
returns c = lemma.numbers_are_read
