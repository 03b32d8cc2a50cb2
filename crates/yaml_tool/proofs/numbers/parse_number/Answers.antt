use Rattle.yaml_tool.proofs.Common.{◌*◌, ◌+◌, ◌≤◌, sym, ◌∙◌, arith, IsUtf8-past_char, digit_value, chars}
use Rattle.yaml_tool.proofs.NumberLemmas.{too_great, digit_first, no_digit_first}
use Rattle.yaml_tool.proofs.numbers.parse_number.Goals as goal

pub returns-then-number-limit : goal.returns-then-number-limit
returns-then-number-limit c =
    let step = digit_first c.args.radix c.args.most c.loop-digit.number c.from-base.result c.from-value.result c.in-Some.digit (chars c.loop-digit.rest.now)
    (chars c.in-Some.behind.now) c.from-base.ensures c.in-Some.ensures.characters (c.from-value.ensures ∙ c.in_ok-to_digit.ensures.value.1)
    (omega (arith, c.in_ok-to_digit.ensures.value.0, c.in_ok-to_digit.ensures.value.1)) in
    sym (c.loop-digit.invariant.2 ∙ step
    ∙ too_great c.args.radix c.args.most (c.loop-digit.number * c.from-base.result + c.from-value.result) (chars c.in-Some.behind.now) (omega arith)
    (omega arith))

pub loop-digit-preserved : goal.loop-digit-preserved
loop-digit-preserved c =
    let step = digit_first c.args.radix c.args.most c.loop-digit.number c.from-base.result c.from-value.result c.in-Some.digit (chars c.loop-digit.rest.now)
    (chars c.in-Some.behind.now) c.from-base.ensures c.in-Some.ensures.characters (c.from-value.ensures ∙ c.in_ok-to_digit.ensures.value.1)
    (omega (arith, c.in_ok-to_digit.ensures.value.0, c.in_ok-to_digit.ensures.value.1)) in (
      omega arith,
      IsUtf8-past_char c.loop-digit.rest.now c.in-Some.behind.now c.in-Some.digit c.loop-digit.invariant.1 c.in-Some.ensures.bytes,
      c.loop-digit.invariant.2 ∙ step,
    )

pub returns-in_err-to_digit : goal.returns-in_err-to_digit
returns-in_err-to_digit c =
    let large : c.args.radix ≤ digit_value c.in-Some.digit = omega (arith, c.in_err-to_digit.ensures.value) in
    c.from_residual.ensures ∙ sym (c.loop-digit.invariant.2
    ∙ no_digit_first c.args.radix c.args.most c.loop-digit.number c.in-Some.digit (chars c.loop-digit.rest.now)
    (chars c.in-Some.behind.now) c.in-Some.ensures.characters large)
