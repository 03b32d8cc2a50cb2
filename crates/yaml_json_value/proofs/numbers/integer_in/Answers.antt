use Rattle.std.proofs.Common.{ap, sym, true≢false, w64, ◌∙◌}
use Rattle.std.proofs.lemmas.Int.{to_z-of_z}
use Rattle.std.specs.Fmt.{signed_decimal}
use Rattle.yaml_read.proofs.HeadsRead.{bits_of_fits, parsed_fits}
use Rattle.yaml_json_value.proofs.Integers.{is_integer, not_parsed, not_spelled}
use Rattle.yaml_json_value.proofs.numbers.integer_in.Goals as goal

pub returns-then-is_spelled : goal.returns-then-is_spelled
returns-then-is_spelled c =
    let fits = parsed_fits c.args.digits.now c.in-Ok.number c.parse.result c.parse.ensures.value.0 c.in-Ok.is in
    let made = to_z-of_z w64 c.in-Ok.number fits in
    let found = is_integer c.args.digits.now c.in-Ok.number (bits_of_fits c.in-Ok.number fits) (c.is_spelled.ensures.0 c.if-is_spelled.true ∙ ap signed_decimal made) in
    (found.0, made ∙ found.1)

pub returns-else-is_spelled : goal.returns-else-is_spelled
returns-else-is_spelled c =
    let fits = parsed_fits c.args.digits.now c.in-Ok.number c.parse.result c.parse.ensures.value.0 c.in-Ok.is in
    not_spelled c.args.digits.now c.in-Ok.number c.parse.result c.parse.ensures.value.0 c.in-Ok.is
    (λ same. true≢false (sym (c.is_spelled.ensures.1 (same ∙ ap signed_decimal (sym (to_z-of_z w64 c.in-Ok.number fits)))) ∙ c.if-is_spelled.false))

pub returns-in-Err : goal.returns-in-Err
returns-in-Err c = not_parsed c.args.digits.now c.parse.result c.in-Err.field-0 c.parse.ensures.value.0 c.in-Err.is
