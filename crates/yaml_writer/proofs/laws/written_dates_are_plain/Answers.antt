use Rattle.yaml_writer.proofs.DateLemmas.{dates_plain}
use Rattle.yaml_writer.proofs.laws.written_dates_are_plain.Goals as goal

pub returns : goal.returns
returns c = dates_plain
