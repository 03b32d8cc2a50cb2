use Rattle.std.proofs.Common.{◌+◌, ◌-◌, ◌*◌, drop, List, ℕ, None, Some, subst, sym, ◌∙◌, arith}
use Rattle.std.specs.Char.{encode_utf8}
use Rattle.json.specs.Text.{after_high, after_u, content, plain, prepend}
use Rattle.yaml_json.specs.Lexemes.{IsSecondHalf, Unescapes}
use Rattle.yaml_json.proofs.ContentSteps.{escape_later, high_spelled, is_high, low_alone, low_spelled, no_high, no_low_scalar, no_unit_spelled, rest_is}
use Rattle.yaml_json.proofs.ContentSteps.{scalar_spelled}
use Rattle.yaml_json.proofs.escapes.spelled_character.Goals as goal

pub returns-in_err-unit : goal.returns-in_err-unit
returns-in_err-unit c =
    subst (Unescapes after_u c.args.text.now) (sym c.from_residual.ensures) (no_unit_spelled c.args.text.now (sym c.in_err-unit.ensures.value))

pub returns-in_err-character : goal.returns-in_err-character
returns-in_err-character c =
    let unit = c.in_ok-unit.unit in
    subst (Unescapes after_u c.args.text.now) (sym c.from_residual-in_err-character.ensures) (low_spelled c.args.text.now unit (sym c.in_ok-unit.ensures.value)
    (no_high unit c.if-unit.true) (low_alone unit c.if-unit.true c.in_ok-unit.ensures.bounds.0 c.in_err-character.ensures.cases))

pub returns-then-unit : goal.returns-then-unit
returns-then-unit c =
    let t = c.args.text.now in
    let unit = c.in_ok-unit.unit in
    let bounds = c.in_ok-unit.ensures.bounds in (
      scalar_spelled t unit (sym c.in_ok-unit.ensures.value) (no_high unit c.if-unit.true) (no_low_scalar unit c.in_ok-character.ensures.cases)
          ∙ (λ i. prepend (encode_utf8 (sym c.in_ok-character.ensures.value.1 i)) (content plain (drop 4 t))),
      omega arith,
      bounds.1,
      bounds.2,
    )

pub returns-in_err-low : goal.returns-in_err-low
returns-in_err-low c =
    let t = c.args.text.now in
    let unit = c.in_ok-unit.unit in
    let none = (subst (λ (rest : List ℕ). IsSecondHalf rest None) (rest_is t 4) c.in_err-low.ensures.half).0 unit in
    subst (Unescapes after_u t) (sym c.from_residual-in_err-low.ensures)
    (high_spelled t unit (sym c.in_ok-unit.ensures.value) (is_high unit c.if-unit.false) ∙ none)

pub returns : goal.returns
returns c =
    let t = c.args.text.now in
    let unit = c.in_ok-unit.unit in
    let low = c.in_ok-low.low in
    let half = (subst (λ (rest : List ℕ). IsSecondHalf rest (Some low)) (rest_is t 4) c.in_ok-low.ensures.half).0 unit in
    let high = high_spelled t unit (sym c.in_ok-unit.ensures.value) (is_high unit c.if-unit.false) in
    subst (λ character. Unescapes after_u t (Some (character, 10))) (sym c.in_ok-character-2.ensures.value.1) (escape_later _ _ t 4 _ 6 high half)
