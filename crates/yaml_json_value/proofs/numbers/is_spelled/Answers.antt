use Rattle.std.proofs.Common.{FitsSigned, ap, rules, w64, ◌∙◌}
use Rattle.std.proofs.lemmas.Int.{to_z-of_z}
use Rattle.std.specs.Fmt.{signed_decimal}
use Rattle.yaml_json_value.proofs.Integers.{spells}
use Rattle.yaml_json_value.proofs.numbers.is_spelled.Goals as goal

pub returns : goal.returns
returns c =
    let fits : FitsSigned w64 c.args.number = search rules in
    spells c.args.digits.now c.format.result.now c.args.number c.eq.result
    (c.format.ensures.text ∙ ap signed_decimal (to_z-of_z w64 c.args.number fits)) c.eq.ensures
