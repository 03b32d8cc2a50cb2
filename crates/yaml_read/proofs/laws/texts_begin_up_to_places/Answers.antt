use Rattle.yaml_read.proofs.PlaceBegins.{behind_place, node_place}
use Rattle.yaml_read.proofs.laws.texts_begin_up_to_places.Goals as goal

pub returns-clause-in_node : goal.returns-clause-in_node
returns-clause-in_node c whole levels bytes left opened room breaks = node_place whole levels bytes left opened room breaks

pub returns-clause-behind_node : goal.returns-clause-behind_node
returns-clause-behind_node c whole levels value bytes left read breaks = behind_place whole levels value bytes left read breaks
