use Rattle.std.proofs.Common.{get_or, sym, ◌∙◌, arith}
use Rattle.yaml_json.proofs.ContentSteps.{no_high_byte, no_low_byte, unit_of_bytes, unit_of_four}
use Rattle.yaml_json.proofs.escapes.code_unit.Goals as goal

pub returns-in_err-high-clause-value : goal.returns-in_err-high-clause-value
returns-in_err-high-clause-value c =
    let t = c.args.text.now in
    c.from_residual.ensures
    ∙ sym (unit_of_four t (omega arith) ∙ no_high_byte (get_or t 0 0) (get_or t 1 0) (get_or t 2 0) (get_or t 3 0) c.in_err-high.ensures.value)

pub returns-in_err-low-clause-value : goal.returns-in_err-low-clause-value
returns-in_err-low-clause-value c =
    let t = c.args.text.now in
    c.from_residual-in_err-low.ensures
    ∙ sym (unit_of_four t (omega arith) ∙ no_low_byte (get_or t 0 0) (get_or t 1 0) (get_or t 2 0) (get_or t 3 0) c.in_err-low.ensures.value)

pub returns-clause-value : goal.returns-clause-value
returns-clause-value c =
    let t = c.args.text.now in
    let high = c.in_ok-high.ensures.value in
    let low = c.in_ok-low.ensures.value in
    sym (unit_of_four t (omega arith)
    ∙ unit_of_bytes (get_or t 0 0) (get_or t 1 0) (get_or t 2 0) (get_or t 3 0) c.in_ok-high.high c.in_ok-low.low high.0 high.1 low.0 low.1 high.2 low.2)
