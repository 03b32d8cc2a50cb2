use Rattle.yaml_json.proofs.Common.{◌≡◌, ◌-◌, drop, length, IsCharBoundary, lex, Leads}
use Rattle.json.specs.Lex.{between}
use Rattle.yaml_json.proofs.lexemes.skip_blanks.Given as goal

abbrev pub invariant-blanks : goal.invariant-blanks
invariant-blanks l = IsCharBoundary l.text l.at × (lex between (drop l.at l.text) ≡ lex between l.text) × Leads l.text (drop l.at l.text)

abbrev pub decreases-blanks : goal.decreases-blanks
decreases-blanks l = length l.text - l.at
