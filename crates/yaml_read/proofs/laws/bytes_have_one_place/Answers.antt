use Rattle.yaml_read.proofs.OnePlace.{no_place, one_place}
use Rattle.yaml_read.proofs.laws.bytes_have_one_place.Goals as goal

pub returns-clause-one : goal.returns-clause-one
returns-clause-one c bytes one other first second = one_place bytes one other first second

pub returns-clause-nowhere : goal.returns-clause-nowhere
returns-clause-nowhere c value error readable placed = no_place value error readable placed
