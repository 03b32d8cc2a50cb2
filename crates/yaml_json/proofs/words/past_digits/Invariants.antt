use Rattle.yaml_json.proofs.Common.{◌≡◌, ◌+◌, ◌-◌, ◌≤◌, drop, length, prefix_len, is_ascii_digit}
use Rattle.yaml_json.proofs.words.past_digits.Given as goal

abbrev pub invariant-digits : goal.invariant-digits
invariant-digits l =
    (l.from ≤ l.at) × (l.at ≤ length l.text)
    × (prefix_len is_ascii_digit (drop l.from l.text) ≡ l.at - l.from + prefix_len is_ascii_digit (drop l.at l.text))

abbrev pub decreases-digits : goal.decreases-digits
decreases-digits l = length l.text - l.at
