use Rattle.yaml_serde.proofs.Common.{subst, sym, arith, HasNumber}
use Rattle.yaml_writer.proofs.NumberTexts.{has_decimal}
use Rattle.yaml_serde.proofs.scalars.give_unsigned.Goals as goal

pub give_number-requires : goal.give_number-requires
give_number-requires c = subst HasNumber (sym c.format.ensures.text) (has_decimal c.args.value (omega arith))
