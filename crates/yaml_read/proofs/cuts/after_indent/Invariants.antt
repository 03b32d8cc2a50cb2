use Rattle.yaml_read.proofs.Common.{◌≡◌, ◌<◌, ◌*◌, ◌++◌, length, Utf8, shadow, line_at}
use Rattle.yaml_read.proofs.cuts.after_indent.Given as goal

abbrev pub invariant-loop-level : goal.invariant-loop-level
invariant-loop-level l = shadow (Utf8 l.rest) × (length l.rest < length l.fn.text) × (l.fn.text ≡ line_at (l._level * 2) ++ l.rest)
