use Rattle.yaml_value.proofs.Common.{◌≡◌, ◌≤◌, length, map, nat_le, most_nested, nesting, seen_value}
use Rattle.yaml_value.{proofs.CountLemmas.CountsBy, proofs.WalkLemmas.deepest_left, proofs.WalkLemmas.work, specs.Walk.seen_rest}
use Rattle.yaml_value.proofs.size.count_within.Given as goal

abbrev pub invariant-loop-rest : goal.invariant-loop-rest
invariant-loop-rest g l =
    (length l.levels.items ≤ most_nested)
    × (nat_le (deepest_left (map seen_rest l.levels.items)) most_nested ≡ nat_le (nesting (seen_value l.value)) most_nested)
    × CountsBy l.count (map seen_rest l.levels.items) (seen_value l.value)

abbrev pub decreases-loop-rest : goal.decreases-loop-rest
decreases-loop-rest g l = work (map seen_rest l.levels.items)
