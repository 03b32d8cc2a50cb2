use Rattle.yaml_dump.proofs.Common.{ℕ, Some, ◌≡◌, FitsSigned, rules, ap, sym, ◌∙◌, w32, arith, to_z-of_z, seen_number}
use Rattle.yaml_dump.proofs.ChildLemmas.{none_behind, key_seen, value_seen}
use Rattle.yaml_dump.proofs.walk.number_in_pairs.Goals as goal

pub returns-in_err-pair : goal.returns-in_err-pair
returns-in_err-pair c = c.from_residual.ensures ∙ sym (none_behind c.args.pairs.now c.args.place (omega (arith, c.in_err-pair.ensures.lookup)))

pub returns-then-place-eq0 : goal.returns-then-place-eq0
returns-then-place-eq0 c =
    let lookup = c.in_ok-pair.ensures.lookup in
    let fits : FitsSigned w32 c.in_ok-pair.pair.now.key = search rules in
    let number : c.number_of.result ≡ seen_number c.in_ok-pair.pair.now.key = simp to_z-of_z at c.number_of.ensures in
    ap (λ (n : ℕ). Some n) number ∙ sym (key_seen c.args.pairs.now c.args.place c.in_ok-pair.pair.now lookup.3.0 lookup.1 c.if-place-eq0.true)

pub returns-else-place-eq0 : goal.returns-else-place-eq0
returns-else-place-eq0 c =
    let lookup = c.in_ok-pair.ensures.lookup in
    let fits : FitsSigned w32 c.in_ok-pair.pair.now.value = search rules in
    let number : c.number_of-else-place-eq0.result ≡ seen_number c.in_ok-pair.pair.now.value = simp to_z-of_z at c.number_of-else-place-eq0.ensures in
    ap (λ (n : ℕ). Some n) number ∙ sym (value_seen c.args.pairs.now c.args.place c.in_ok-pair.pair.now lookup.3.0 lookup.1 c.if-place-eq0.false)
