use Rattle.std.proofs.Common.{append_assoc}
use Rattle.yaml_program.proofs.checking.difference_line.Goals as goal

pub returns : goal.returns
returns c = simp append_assoc
