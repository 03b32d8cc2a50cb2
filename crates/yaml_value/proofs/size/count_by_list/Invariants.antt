use Rattle.yaml_value.proofs.Common.{map, seen_value}
use Rattle.yaml_value.{proofs.CountLemmas.CountsBy, proofs.WalkLemmas.work, specs.Walk.seen_rest}
use Rattle.yaml_value.proofs.size.count_by_list.Given as goal

abbrev pub invariant-loop-rest : goal.invariant-loop-rest
invariant-loop-rest g l = CountsBy l.count (map seen_rest l.levels.items) (seen_value l.value)

abbrev pub decreases-loop-rest : goal.decreases-loop-rest
decreases-loop-rest g l = work (map seen_rest l.levels.items)
