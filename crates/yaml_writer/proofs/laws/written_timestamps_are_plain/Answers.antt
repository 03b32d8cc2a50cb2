use Rattle.yaml_writer.proofs.TimesPlain.{timestamps_plain}
use Rattle.yaml_writer.proofs.laws.written_timestamps_are_plain.Goals as goal

pub returns : goal.returns
returns c = timestamps_plain
