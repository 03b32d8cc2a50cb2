use Rattle.std.proofs.Common.{◌≤◌, ap, subst, ◌∙◌}
use Rattle.yaml_value.proofs.WeightLemmas.{no_items, no_pairs, weight-List, weight-Map}
use Rattle.yaml_value.specs.Weights.{value_weight}
use Rattle.yaml_value.proofs.value.Value.end.Goals as goal

pub destroy_empty-requires : goal.destroy_empty-requires
destroy_empty-requires g c =
    no_items c.in-List.items (subst (λ weight. weight ≤ 1) (ap value_weight c.in-List.is ∙ weight-List c.in-List.items) c.requires)

pub destroy_empty-requires-in-Map : goal.destroy_empty-requires-in-Map
destroy_empty-requires-in-Map g c =
    no_pairs c.in-Map.pairs (subst (λ weight. weight ≤ 1) (ap value_weight c.in-Map.is ∙ weight-Map c.in-Map.pairs) c.requires)
