use Rattle.yaml_dump.proofs.Common.{take, map, ◌≡◌}
use Rattle.yaml_base.specs.Seen.{seen_directive}
use Rattle.yaml_dump.proofs.outlines.copied_directives.Given as goal

abbrev pub invariant-loop-directive : goal.invariant-loop-directive
invariant-loop-directive g l = map seen_directive l.copies.items ≡ map seen_directive (take l.directive-index l.directives)
