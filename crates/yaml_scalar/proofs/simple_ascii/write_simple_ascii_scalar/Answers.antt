use Rattle.yaml_scalar.proofs.Common.{chars, Err, Ok, Bool, rules, subst, sym, render_text, space_if, plain_body, natural, wrote_then, wrote_failed}
use Rattle.yaml_scalar.proofs.Common.{wrote_exit, Wrote, limit_where}
use Rattle.yaml_scalar.proofs.SimpleAsciiTexts.{simple_ascii_spaced}
use Rattle.yaml_scalar.proofs.simple_ascii.write_simple_ascii_scalar.Goals as goal

pub returns-in_err-separate_if : goal.returns-in_err-separate_if
returns-in_err-separate_if g c = λ flow.
    let limit = limit_where c.args.allow_breaks c.args.width in
    let lead = subst (λ (need : Bool).
    Wrote (λ cursor. render_text (space_if need cursor) cursor) c.args.pen.now c.separate_if.new.self (Err c.in_err-separate_if.field-0.0))
    (sym (simple_ascii_spaced flow c.requires.simple_ascii)) c.in_err-separate_if.ensures.written in
    wrote_exit c.from_residual.ensures (wrote_failed (plain_body limit (natural c.args.indent) (chars c.args.value.now)) lead)

pub returns : goal.returns
returns g c = λ flow.
    let lead = subst (λ (need : Bool). Wrote (λ cursor. render_text (space_if need cursor) cursor) c.args.pen.now c.separate_if.new.self (Ok tt))
    (sym (simple_ascii_spaced flow c.requires.simple_ascii)) c.in_ok-separate_if.ensures.written in
    let body : Wrote (plain_body (limit_where c.args.allow_breaks c.args.width) (natural c.args.indent) (chars c.args.value.now)) c.separate_if.new.self
    c.write_body.new.pen c.write_body.result = search rules in
    wrote_then lead body
