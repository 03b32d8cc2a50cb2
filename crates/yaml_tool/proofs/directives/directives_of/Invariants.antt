use Rattle.yaml_tool.proofs.Common.{option_map, option_and_then, map, ◌++◌, ◌≡◌, seen_directive, later_fields}
use Rattle.yaml_tool.specs.Fields.{left_length}
use Rattle.yaml_base.specs.scripts.Script as notation
use Rattle.yaml_tool.proofs.directives.directives_of.Given as goal

abbrev pub invariant-loop-left : goal.invariant-loop-left
invariant-loop-left g l =
    option_and_then notation.directives_of (later_fields l.rest)
    ≡ option_map (λ more. map seen_directive l.directives.items ++ more) (option_and_then notation.directives_of (later_fields l.left))

abbrev pub decreases-loop-left : goal.decreases-loop-left
decreases-loop-left g l = left_length l.left
