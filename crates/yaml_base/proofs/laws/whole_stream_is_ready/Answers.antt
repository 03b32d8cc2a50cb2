use Rattle.yaml_base.proofs.QueueLaws.{stream_written}
use Rattle.yaml_base.proofs.laws.whole_stream_is_ready.Goals as goal

pub returns : goal.returns
returns c = stream_written
