use Rattle.yaml_base.proofs.Accepted.{refused_exactly}
use Rattle.yaml_base.proofs.laws.refused_exactly.Goals as goal

pub returns : goal.returns
returns c = refused_exactly
