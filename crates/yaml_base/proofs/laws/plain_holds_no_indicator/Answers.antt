use Rattle.yaml_base.proofs.laws.plain_holds_no_indicator.Goals as goal
use Rattle.yaml_base.proofs.CallerLaws as lemma

pub returns : goal.returns
returns c = lemma.plain_holds_no_indicator
