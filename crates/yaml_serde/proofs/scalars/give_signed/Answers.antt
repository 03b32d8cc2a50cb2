use Rattle.yaml_serde.proofs.Common.{ap, subst, sym, ◌∙◌, signed_decimal, w128, HasNumber}
use Rattle.std.proofs.lemmas.Int.{to_z-of_z}
use Rattle.yaml_writer.proofs.NumberTexts.{has_signed, signed_fits}
use Rattle.yaml_serde.proofs.scalars.give_signed.Goals as goal

pub give_number-requires : goal.give_number-requires
give_number-requires c =
    subst HasNumber (sym (c.format.ensures.text ∙ ap signed_decimal (to_z-of_z w128 c.args.value c.ranges.value)))
    (has_signed c.args.value (signed_fits c.args.value c.ranges.value))
