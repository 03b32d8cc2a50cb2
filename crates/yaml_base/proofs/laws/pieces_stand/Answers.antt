use Rattle.yaml_base.proofs.PieceLaws.{pieces_stand}
use Rattle.yaml_base.proofs.laws.pieces_stand.Goals as goal

pub returns : goal.returns
returns c = pieces_stand
