use Rattle.std.proofs.Common.{ap, ◌∙◌, rules}
use Rattle.yaml_value.proofs.WeightLemmas.{exchanged_as, weight-Map}
use Rattle.yaml_value.specs.Weights.{pairs_weight, value_weight}
use Rattle.yaml_value.proofs.value.Value.exchange.Goals as goal

pub returns-in-Map : goal.returns-in-Map
returns-in-Map g c =
    let it = c.in-Map in
    exchanged_as _ _ (pairs_weight it.pairs.items) (pairs_weight c.exchange_value.new.pairs.items) value_weight c.args.other c.exchange_value.result
    (ap value_weight it.is ∙ weight-Map it.pairs) (search (rules, weight-Map)) (rw it.pairs-is at c.exchange_value.ensures)
