use Rattle.yaml_read.proofs.Common.{◌≤◌, length, vec_len, Utf8, shadow, seen_levels, seen_value, Ended}
use Rattle.yaml_read.proofs.Opening.{ReadsOn}
use Rattle.yaml_read.proofs.levels.settle.Given as goal

abbrev pub invariant-loop-level : goal.invariant-loop-level
invariant-loop-level g l =
    shadow (Utf8 l.text) × (length l.text ≤ length l.fn.text)
    × ReadsOn (seen_levels l.fn.levels.items) (seen_value l.fn.value) l.fn.text (seen_levels l.levels.items) (seen_value l.value) l.text
    × Ended (seen_levels l.fn.levels.items) (seen_value l.fn.value) (seen_levels l.levels.items) (seen_value l.value)

abbrev pub decreases-loop-level : goal.decreases-loop-level
decreases-loop-level g l = vec_len l.levels
