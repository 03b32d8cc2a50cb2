use Rattle.yaml_json.proofs.Common.{◌≡◌, ◌-◌, drop, length, in_string, lex}
use Rattle.yaml_json.proofs.ModeSteps.{WithinString}
use Rattle.yaml_json.proofs.lexemes.after_string.Given as goal

abbrev pub invariant-bytes : goal.invariant-bytes
invariant-bytes l = (lex in_string (drop l.at l.text) ≡ lex in_string (drop l.from l.text)) × WithinString l.text l.from l.at

abbrev pub decreases-bytes : goal.decreases-bytes
decreases-bytes l = length l.text - l.at
