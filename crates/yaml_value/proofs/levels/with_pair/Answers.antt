use Rattle.yaml_value.proofs.Common.{ap, ◌∙◌, TypedPairs, seen_pairs}
use Rattle.yaml_value.specs.OpenLevels.{pairs_open}
use Rattle.yaml_value.proofs.SeenLevels.{pair_more}
use Rattle.yaml_value.proofs.levels.with_pair.Goals as goal

pub returns : goal.returns
returns g c =
    ap (λ (pairs : TypedPairs). pairs_open pairs) (ap seen_pairs c.in_ok-push.ensures.items ∙ pair_more c.args.pairs.items c.args.pair)
