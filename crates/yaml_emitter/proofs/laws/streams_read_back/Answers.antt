use Rattle.yaml_emitter.proofs.layouts.StreamsReadBack.{stream_reads_back}
use Rattle.yaml_emitter.proofs.laws.streams_read_back.Goals as goal

pub returns : goal.returns
returns c = stream_reads_back
