use Rattle.yaml_base.proofs.PercentLaws as percent
use Rattle.yaml_mark.proofs.laws.portable_suffix_holds_no_flow_indicator.Goals as goal

pub returns : goal.returns
returns c = percent.portable_suffix_has_no_flow_indicator
