use Rattle.yaml_tool.proofs.Common.{ℕ, ◌+◌, ◌≤◌, length, List, ◌++◌, ◌≡◌, seen_progress, script_after_lines}
use Rattle.yaml_tool.proofs.scripts.take_lines.Given as goal

abbrev pub invariant-loop-end : goal.invariant-loop-end
invariant-loop-end g l =
    ((more : List ℕ) → script_after_lines l.fn.number (seen_progress l.initial.progress) (l.bytes ++ more)
    ≡ script_after_lines l.number (seen_progress l.progress) (l.rest ++ more))
    × (l.number + length l.rest ≤ l.fn.number + length l.bytes)

abbrev pub decreases-loop-end : goal.decreases-loop-end
decreases-loop-end g l = length l.rest
