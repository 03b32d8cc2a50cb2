use Rattle.yaml_value.proofs.Common.{codes, refl, ap, ◌∙◌, chars, signed_decimal}
use Rattle.std.proofs.{Common.w64, lemmas.Int.to_z-of_z}
use Rattle.yaml_emitter.proofs.Digits.{digits_seen}
use Rattle.yaml_value.proofs.TextSteps.{scalar_written}
use Rattle.yaml_value.proofs.texts.write_integer.Goals as goal

pub returns-clause-written : goal.returns-clause-written
returns-clause-written g c =
    scalar_written c.write_scalar.result c.args.bytes.now.items c.write_scalar.new.bytes.items (codes "!!int ") (chars c.format.result.now)
    (signed_decimal c.args.value) refl
    (digits_seen c.args.value c.format.result.now c.ranges.value
    (c.format.ensures.text ∙ ap signed_decimal (to_z-of_z w64 c.args.value c.ranges.value))) c.write_scalar.ensures
