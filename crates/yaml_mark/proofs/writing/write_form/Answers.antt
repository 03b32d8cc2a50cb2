use Rattle.yaml_mark.proofs.Common.{◌%◌, Ok, [], ◌∷◌, refl, subst, sym, Text, hex_digit, render_text, byte_escaped, wrote_text_then, wrote_exit, wrote_cut}
use Rattle.yaml_mark.proofs.{Common.Wrote, EscapingLemmas.form_is}
use Rattle.yaml_base.proofs.Common.{hex_digits}
use Rattle.yaml_mark.proofs.writing.write_form.Goals as goal

pub returns-in_err-put : goal.returns-in_err-put
returns-in_err-put g c =
    wrote_exit c.from_residual.ensures
    (wrote_cut (render_text (byte_escaped c.args.byte)) (hex_digits 2 c.args.byte) refl c.in_err-put.ensures.written)

pub returns-in_err-put-2 : goal.returns-in_err-put-2
returns-in_err-put-2 g c =
    wrote_exit c.from_residual-in_err-put-2.ensures
    (wrote_cut (render_text (byte_escaped c.args.byte)) (hex_digit (c.args.byte % 16) ∷ [])
    (sym (form_is c.args.byte c.hex_digit.result (hex_digit (c.args.byte % 16)) c.ranges.byte.fits c.hex_digit.ensures.value refl))
    (wrote_text_then c.in_ok-put.ensures.written c.in_err-put-2.ensures.written))

pub returns : goal.returns
returns g c =
    let is = form_is c.args.byte c.hex_digit.result c.hex_digit-2.result c.ranges.byte.fits c.hex_digit.ensures.value c.hex_digit-2.ensures.value in
    subst (λ (text : Text). Wrote (render_text text) c.args.pen.now c.put-3.new.self c.put-3.result) is
    (wrote_text_then {answer = c.put-3.result}
    (wrote_text_then {answer = Ok tt} c.in_ok-put.ensures.written c.in_ok-put-2.ensures.written) c.put-3.ensures.written)
