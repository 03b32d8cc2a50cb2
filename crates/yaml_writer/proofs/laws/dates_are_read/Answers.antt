use Rattle.yaml_writer.proofs.DateLemmas.{dates_read}
use Rattle.yaml_writer.proofs.laws.dates_are_read.Goals as goal

pub returns : goal.returns
returns c = dates_read
