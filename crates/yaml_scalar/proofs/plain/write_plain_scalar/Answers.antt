use Rattle.yaml_scalar.proofs.Common.{chars, Err, Ok, Bool, not, ◌||◌, ap, rules, subst, render_text, space_if, plain_body, natural, wrote_then, wrote_failed}
use Rattle.yaml_scalar.proofs.Common.{wrote_exit, Wrote, limit_where}
use Rattle.yaml_scalar.proofs.LinesReadBack.{two_or_more, plain_back}
use Rattle.yaml_scalar.proofs.plain.write_plain_scalar.Goals as goal

pub returns-in_err-separate_if-clause-written : goal.returns-in_err-separate_if-clause-written
returns-in_err-separate_if-clause-written g c =
    let lead = subst (λ (need : Bool).
    Wrote (λ cursor. render_text (space_if need cursor) cursor) c.args.pen.now c.separate_if.new.self (Err c.in_err-separate_if.field-0.0))
    (ap (λ (at_end : Bool). c.args.flow || not at_end) c.is_at_end.ensures) c.in_err-separate_if.ensures.written in
    wrote_exit c.from_residual.ensures
    (wrote_failed (plain_body (limit_where c.args.allow_breaks c.args.width) (natural c.args.indent) (chars c.args.value.now)) lead)

pub returns-clause-written : goal.returns-clause-written
returns-clause-written g c =
    let lead = subst (λ (need : Bool). Wrote (λ cursor. render_text (space_if need cursor) cursor) c.args.pen.now c.separate_if.new.self (Ok tt))
    (ap (λ (at_end : Bool). c.args.flow || not at_end) c.is_at_end.ensures) c.in_ok-separate_if.ensures.written in
    let body : Wrote (plain_body (limit_where c.args.allow_breaks c.args.width) (natural c.args.indent) (chars c.args.value.now)) c.separate_if.new.self
    c.write_body.new.pen c.write_body.result = search rules in
    wrote_then lead body

pub returns-clause-reads : goal.returns-clause-reads
returns-clause-reads g c charset allowed =
    let limit = limit_where c.args.allow_breaks c.args.width in
    plain_back charset c.args.flow limit (natural c.args.indent) (chars c.args.value.now) c.write_body.result
    (two_or_more c.args.indent c.requires.indented) allowed (returns-clause-written g c)
