use Rattle.yaml_c.proofs.Common.{◌≤◌, option_map, drop, length, map, ◌++◌, ◌≡◌, seen_directive, directives_recorded}
use Rattle.yaml_c.proofs.records.directives_of.Given as goal

abbrev pub invariant-loop-directive : goal.invariant-loop-directive
invariant-loop-directive g l =
    (l.directive-index ≤ l.directive-index-end)
    × (l.directive-index-end ≡ length l.fn.directives)
    × (directives_recorded l.fn.arena l.fn.directives
    ≡ option_map (λ more. map seen_directive l.all.items ++ more) (directives_recorded l.fn.arena (drop l.directive-index l.fn.directives)))
