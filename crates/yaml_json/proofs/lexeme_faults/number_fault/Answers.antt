use Rattle.yaml_json.proofs.Common.{◌≡◌, ◌+◌, ◌==◌, List, ℕ, cond, drop, subst, sym, ap, ◌∙◌, drop-drop, after_minus, head, FaultsAt}
use Rattle.yaml_json.specs.Faults.{integer_fault}
use Rattle.yaml_json.proofs.lexeme_faults.number_fault.Goals as goal

pub returns-then-byte_at-eq45 : goal.returns-then-byte_at-eq45
returns-then-byte_at-eq45 c =
    let text = c.args.text.now in
    let rest = drop c.args.at text in
    let minus : head rest ≡ 45 = sym c.byte_at.ensures ∙ c.if-byte_at-eq45.true in
    let same : after_minus rest ≡ drop (c.args.at + 1) text = ap (λ byte. cond (byte == 45) (drop 1 rest) rest) minus ∙ drop-drop 1 c.args.at text in
    subst (λ (t : List ℕ). FaultsAt text c.integer_fault.result (integer_fault t)) (sym same) c.integer_fault.ensures
