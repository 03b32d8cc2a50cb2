use Rattle.yaml_writer.proofs.TypedTrees.{typed_read}
use Rattle.yaml_writer.proofs.laws.typed_events_are_read.Goals as goal

pub returns : goal.returns
returns c = typed_read
