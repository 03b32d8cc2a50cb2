use Rattle.yaml_base.proofs.laws.breaks_agree.Goals as goal
use Rattle.yaml_base.proofs.CallerLaws as lemma

pub returns : goal.returns
returns c = lemma.breaks_agree
