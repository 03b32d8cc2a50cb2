use Rattle.yaml_tool.proofs.Common.{◌≤◌, length, ◌≡◌, IsUtf8, chars, number_after}
use Rattle.yaml_tool.proofs.numbers.parse_number.Given as goal

abbrev pub invariant-loop-digit : goal.invariant-loop-digit
invariant-loop-digit l = (l.number ≤ l.most) × IsUtf8 l.rest
    × (number_after l.radix l.most 0 (chars l.digits) ≡ number_after l.radix l.most l.number (chars l.rest))

abbrev pub decreases-loop-digit : goal.decreases-loop-digit
decreases-loop-digit l = length l.rest
