use Rattle.yaml_tool.proofs.Common.{Nowhere, Passes, is_byte2}
use Rattle.yaml_tool.proofs.characters.skip_word.Given as goal

abbrev pub invariant-loop-place : goal.invariant-loop-place
invariant-loop-place l = Nowhere (Passes (is_byte2 0x20 0x22) l.text) 0 l.place
