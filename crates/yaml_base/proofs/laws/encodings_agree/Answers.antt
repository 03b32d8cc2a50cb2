use Rattle.yaml_base.proofs.laws.encodings_agree.Goals as goal
use Rattle.yaml_base.proofs.CallerLaws as lemma

pub returns : goal.returns
returns c = lemma.encodings_agree
