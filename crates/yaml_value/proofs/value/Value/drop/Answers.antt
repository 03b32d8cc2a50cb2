use Rattle.std.proofs.Common.{◌+◌, ap, arith}
use Rattle.yaml_value.proofs.WeightLemmas.{goes_out}
use Rattle.yaml_value.specs.Weights.{value_weight}
use Rattle.yaml_value.proofs.value.Value.drop.Goals as goal

pub values-smaller : goal.values-smaller
values-smaller g c =
    let outer = ap value_weight c.in-Err.ensures.0 in
    let less = c.in-Ok-leave.ensures in
    goes_out (value_weight c.values.hand + value_weight c.values.around) (value_weight c.in-Ok-leave.next + value_weight c.in-Ok-leave.waiting)
    (value_weight c.values.hand) (value_weight c.in-Ok-leave.next) (omega (arith, outer, less)) (omega arith)
