use Rattle.std.proofs.Common.{FitsSigned, ap, of_z, subst, sym, to_z, w64, ◌∙◌}
use Rattle.std.proofs.lemmas.Int.{to_z-of_z}
use Rattle.json.specs.Token.{Token}
use Rattle.yaml_base.specs.values.TypedValues.{TypedValue, int_value}
use Rattle.yaml_value.specs.{OpenLevels.seen_levels, SeenValues.seen_value}
use Rattle.yaml_value.specs.declared.value.Value as declared
use Rattle.yaml_read.proofs.Scalars.{fits_signed}
use Rattle.yaml_value.proofs.SeenLevels.{seen_integer}
use Rattle.yaml_json_value.specs.Standing.{give}
use Rattle.yaml_json_value.specs.Typed.{integer_of}
use Rattle.yaml_json_value.proofs.Taking.{no_integer, taken_as}
use Rattle.yaml_json_value.proofs.walk.take_number.Goals as goal

pub returns-in-Ok : goal.returns-in-Ok
returns-in-Ok g c =
    let before = seen_levels c.args.levels.now.items in
    let digits = c.args.digits.now in
    let n = c.in-Ok.number in
    let found = c.in-Ok.ensures in
    let fits = subst (FitsSigned w64) (sym found.1) (fits_signed (integer_of digits) found.0.bits) in
    let seen = ap (λ z. seen_value {A = g.row.A.Denot} (declared.Int z)) (to_z-of_z w64 n fits) ∙ seen_integer g.row.A.Denot n ∙ ap int_value found.1 in
    taken_as (Token.number digits) before c.settle.new.levels.items
    (give before (seen_value {A = g.row.A.Denot} (declared.Int (to_z w64 (of_z w64 n))))) c.settle.result
    (ap (λ (value : TypedValue). give before value) (sym seen)) found.0 c.settle.ensures

pub returns-in-Err : goal.returns-in-Err
returns-in-Err g c =
    no_integer c.args.digits.now (seen_levels c.args.levels.now.items) c.args.levels.now.items c.in-Err.stop c.in-Err.ensures
