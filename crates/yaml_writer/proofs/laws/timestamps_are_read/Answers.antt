use Rattle.yaml_writer.proofs.TimeLemmas.{timestamps_read}
use Rattle.yaml_writer.proofs.laws.timestamps_are_read.Goals as goal

pub returns : goal.returns
returns c = timestamps_read
