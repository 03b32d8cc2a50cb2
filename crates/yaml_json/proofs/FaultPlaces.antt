-- The place of a fault in a text.
use Rattle.yaml_json.proofs.Common.{min, ◌≡◌, ℕ, ◌-◌, ◌≤◌, inl, inr, Option, None, Some, List, drop, length, length-drop, sym, ap, ◌∙◌, arith, cases_lt}
use Rattle.yaml_json.proofs.Common.{drop_all, Fault, FaultsAt, said_at, Expected}
use Rattle.yaml_json.specs.{Faults.fault_of, Faults.said_by, Expected.expected_at}

pub dropped_within : (text : List ℕ) (at place : ℕ) → place ≡ min at (length text) → drop place text ≡ drop at text
dropped_within text at place is = elim (cases_lt at (length text)) [
  | inl less ↦ let same : place ≡ at = omega (arith, is, less) in ap (λ n. drop n text) same
  | inr more ↦ let end : place ≡ length text = omega (arith, is, more) in
      drop_all place text (omega (arith, end)) ∙ sym (drop_all at text more)
]

-- The fault is within the text, if the lexeme is.
pub said_within : (text : List ℕ) (lexeme : ℕ) → lexeme ≤ length text → (said_at text lexeme).1 ≤ length text
said_within text lexeme within = let possible = expected_at text lexeme in by_fault possible (fault_of possible (drop lexeme text)) where
  by_fault : (possible : Expected) (fault : Option Fault) → (said_by possible text lexeme fault).1 ≤ length text
  by_fault possible None = within
  by_fault possible (Some fault) = omega arith

-- The place is told by the bytes from there on.
pub said_there : (possible : Expected) (text : List ℕ) (at place : ℕ) (found : Expected × ℕ) → drop place text ≡ drop at text
    → FaultsAt text (Some found) (fault_of possible (drop place text)) → found ≡ said_by possible text at (fault_of possible (drop at text))
said_there possible text at place found same is =
    let told : found.1 ≡ length text - length (drop found.1 text) = omega (arith, is.1, length-drop found.1 text) in
    (λ i. (found.0, told i)) ∙ ap (said_by possible text at) (is.0 ∙ ap (fault_of possible) same)
