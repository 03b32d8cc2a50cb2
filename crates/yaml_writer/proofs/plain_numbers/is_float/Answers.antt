use Rattle.yaml_writer.proofs.Common.{Bool, ◌&&◌, option_map, ap, sym, ◌∙◌}
use Rattle.yaml_base.proofs.Common.{past_sign}
use Rattle.yaml_writer.proofs.ShapeCuts.{float_by_cut, well_cut}
use Rattle.yaml_writer.specs.{NumberParts.exponent_cut, PlainTags.is_signed_exponent, SeenNumbers.seen_exponent}
use Rattle.yaml_writer.proofs.plain_numbers.is_float.Goals as goal

pub returns-then-is_pointed : goal.returns-then-is_pointed
returns-then-is_pointed c =
    c.is_signed.ensures
    ∙ ap (λ (x : Bool). x && is_signed_exponent (option_map seen_exponent c.exponent_cut.result.1)) (sym c.if-is_pointed.true ∙ c.is_pointed.ensures)
    ∙ ap well_cut c.exponent_cut.ensures ∙ ap (λ text. well_cut (exponent_cut text)) c.sign_cut.ensures.digits
    ∙ float_by_cut (past_sign c.args.text.now)

pub returns-else-is_pointed : goal.returns-else-is_pointed
returns-else-is_pointed c =
    c.if-is_pointed.false
    ∙ ap (λ (x : Bool). x && is_signed_exponent (option_map seen_exponent c.exponent_cut.result.1)) (sym c.if-is_pointed.false ∙ c.is_pointed.ensures)
    ∙ ap well_cut c.exponent_cut.ensures ∙ ap (λ text. well_cut (exponent_cut text)) c.sign_cut.ensures.digits
    ∙ float_by_cut (past_sign c.args.text.now)
