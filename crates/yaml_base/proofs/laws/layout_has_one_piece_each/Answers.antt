use Rattle.yaml_base.proofs.PieceLaws.{one_piece_each}
use Rattle.yaml_base.proofs.laws.layout_has_one_piece_each.Goals as goal

pub returns : goal.returns
returns c = one_piece_each
