use Rattle.std.proofs.Common.{◌+◌}
use Rattle.yaml_value.proofs.WeightLemmas.{turns}
use Rattle.yaml_value.specs.Weights.{value_weight}
use Rattle.yaml_value.proofs.value.Value.drop.Given as goal

abbrev pub decreases-values : goal.decreases-values
decreases-values g l = turns (value_weight l.hand + value_weight l.around) (value_weight l.hand)
