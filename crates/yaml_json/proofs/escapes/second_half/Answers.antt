use Rattle.yaml_json.proofs.Common.{◌<◌, drop, get_or, List, ℕ, ap, subst, sym, ◌∙◌, arith, get_or-drop, first_unit}
use Rattle.yaml_json.specs.Lexemes.{IsSecondHalf}
use Rattle.yaml_json.proofs.ContentSteps.{is_low, low_bounds, low_half, no_escape, no_half, no_half_unit, no_low, no_low_half, rest_is}
use Rattle.yaml_json.proofs.escapes.second_half.Goals as goal

pub returns-then-text-lt6-clause-half : goal.returns-then-text-lt6-clause-half
returns-then-text-lt6-clause-half c = (no_half c.args.text.now c.if-text-lt6.true, tt)

pub returns-then-text-clause-half : goal.returns-then-text-clause-half
returns-then-text-clause-half c = (no_escape c.args.text.now c.if-text-lt6.false c.if-text.true, tt)

pub returns-in_err-unit-clause-half : goal.returns-in_err-unit-clause-half
returns-in_err-unit-clause-half c =
    let t = c.args.text.now in
    let none = ap first_unit (sym (rest_is t 2)) ∙ sym c.in_err-unit.ensures.value in
    subst (IsSecondHalf t) (sym c.from_residual.ensures) (no_half_unit t c.if-text-lt6.false c.if-text.false none, tt)

pub returns-then-unit-clause-half : goal.returns-then-unit-clause-half
returns-then-unit-clause-half c =
    let t = c.args.text.now in
    let unit = c.in_ok-unit.unit in
    let is = ap first_unit (sym (rest_is t 2)) ∙ sym c.in_ok-unit.ensures.value in
    (no_low_half t c.if-text-lt6.false c.if-text.false unit is (no_low unit c.if-unit.true), tt)

pub returns-else-unit-clause-half : goal.returns-else-unit-clause-half
returns-else-unit-clause-half c =
    let t = c.args.text.now in
    let unit = c.in_ok-unit.unit in
    let is = ap first_unit (sym (rest_is t 2)) ∙ sym c.in_ok-unit.ensures.value in
    let ascii : get_or (drop 2 t) 3 0 < 128 = subst (λ (rest : List ℕ). get_or rest 3 0 < 128) (rest_is t 2) c.in_ok-unit.ensures.bounds.2 in (
      (λ high. (
        low_half t c.if-text-lt6.false c.if-text.false unit is (is_low unit c.if-unit.false) high,
        omega arith,
        c.if-text-lt6.false,
        subst (λ byte. byte < 128) (get_or-drop 2 t 3 0) ascii,
      )),
      low_bounds unit c.if-unit.false,
    )
