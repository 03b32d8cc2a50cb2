use Rattle.yaml_read.proofs.Common.{◌≡◌, ap, subst, sym, ◌∙◌, FitsSigned, true≢false, w64, to_z-of_z, bytes_eq-Decides, parse-signed_decimal, signed_decimal}
use Rattle.yaml_read.proofs.{Scalars.fits_signed, Scalars.not_parsed}
use Rattle.yaml_read.proofs.heads.integer_of.Goals as goal

pub returns-else-eq : goal.returns-else-eq
returns-else-eq c =
    λ n few is.
    let value = parse-signed_decimal w64 n c.args.digits.now c.parse.result (fits_signed n few) few is c.parse.ensures.value.0 in
    let same : c.in-Ok.value ≡ n = cc in
    let fits = subst (FitsSigned w64) (sym same) (fits_signed n few) in
    let spelled = c.format.ensures.text ∙ ap signed_decimal (to_z-of_z w64 c.in-Ok.value fits ∙ same) in
    true≢false (sym ((bytes_eq-Decides c.args.digits.now c.format.result.now).1 (is ∙ sym spelled)) ∙ sym c.eq.ensures ∙ c.if-eq.false)

pub returns-in-Err : goal.returns-in-Err
returns-in-Err c =
    λ n few is.
    let value = parse-signed_decimal w64 n c.args.digits.now c.parse.result (fits_signed n few) few is c.parse.ensures.value.0 in
    not_parsed n c.in-Err.field-0 c.parse.result value c.in-Err.is
