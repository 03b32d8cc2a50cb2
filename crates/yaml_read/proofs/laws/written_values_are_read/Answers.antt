use Rattle.yaml_read.proofs.ReadBack.{read_back, written_readable}
use Rattle.yaml_read.proofs.laws.written_values_are_read.Goals as goal

pub returns-clause-readable : goal.returns-clause-readable
returns-clause-readable g c value bytes written never = written_readable g.row.A.Denot value bytes written never

pub returns-clause-read : goal.returns-clause-read
returns-clause-read g c value bytes answer readable written answers = read_back value bytes answer readable written answers
