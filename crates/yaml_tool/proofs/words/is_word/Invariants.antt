use Rattle.yaml_tool.proofs.Common.{length, ◌≡◌, bytes_eq, chars}
use Rattle.yaml_base.specs.scripts.Script as notation
use Rattle.yaml_tool.proofs.words.is_word.Given as goal

abbrev pub invariant-loop-left : goal.invariant-loop-left
invariant-loop-left l = bytes_eq l.left l.named ≡ notation.is_word (chars l.word) l.name

abbrev pub decreases-loop-left : goal.decreases-loop-left
decreases-loop-left l = length l.named
