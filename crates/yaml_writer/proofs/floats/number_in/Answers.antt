use Rattle.yaml_writer.proofs.PartLemmas.{number_in_text}
use Rattle.yaml_writer.proofs.floats.number_in.Goals as goal

pub of_text-requires : goal.of_text-requires
of_text-requires c = number_in_text c.args.text.now c.requires
