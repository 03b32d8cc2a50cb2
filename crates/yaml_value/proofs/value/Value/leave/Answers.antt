use Rattle.std.proofs.Common.{◌+◌, ◌<◌, ◌≤◌, ap, subst, sym, ◌∙◌}
use Rattle.std.specs.Prelude.{MatchResult}
use Rattle.yaml_value.proofs.WeightLemmas.{weight-List, weight-Map}
use Rattle.yaml_value.specs.Weights.{value_weight}
use Rattle.yaml_value.proofs.value.Value.leave.Goals as goal

pub returns-in-List : goal.returns-in-List
returns-in-List g c =
    subst (λ weight. MatchResult c.leave_list.result (λ next. value_weight next.0 + value_weight next.1 < weight) (λ last. value_weight last ≤ 1))
    (sym (ap value_weight c.in-List.is ∙ weight-List c.in-List.items)) c.leave_list.ensures

pub returns-in-Map : goal.returns-in-Map
returns-in-Map g c =
    subst (λ weight. MatchResult c.leave_map.result (λ next. value_weight next.0 + value_weight next.1 < weight) (λ last. value_weight last ≤ 1))
    (sym (ap value_weight c.in-Map.is ∙ weight-Map c.in-Map.pairs)) c.leave_map.ensures
