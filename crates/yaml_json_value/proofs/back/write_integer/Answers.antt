use Rattle.std.proofs.Common.{◌<◌, ap, refl, rules, subst, sym, to_z, of_z, w64}
use Rattle.std.proofs.lemmas.Int.{to_z-of_z}
use Rattle.std.specs.Fmt.{signed_decimal}
use Rattle.std.specs.Int.Signed.{mag}
use Rattle.std.specs.Prelude.{◌^◌, ℤ}
use Rattle.json.specs.Token.{Token}
use Rattle.json.specs.Written.{Writes}
use Rattle.yaml_json_value.proofs.Untyping.{int_goes, told_goes}
use Rattle.yaml_json_value.proofs.back.write_integer.Goals as goal

pub returns : goal.returns
returns g c = λ root outer walked.
    let few : mag c.args.number < 2 ^ 63 = search rules in
    let writes = subst (λ (n : ℤ). Writes c.i64.result c.args.writer.now c.i64.new.self (Token.number (signed_decimal n)))
    (to_z-of_z w64 c.args.number c.ranges.number) c.i64.ensures in
    told_goes root c.args.writer.now c.i64.new.self outer outer c.i64.result c.told.result c.told.ensures refl
    (int_goes root c.args.number c.args.writer.now c.i64.new.self c.i64.result outer few walked writes)
