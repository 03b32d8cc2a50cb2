use Rattle.yaml_writer.proofs.PlainNumbers.{written_numbers}
use Rattle.yaml_writer.proofs.laws.written_numbers_are_read.Goals as goal

pub returns : goal.returns
returns c = written_numbers
