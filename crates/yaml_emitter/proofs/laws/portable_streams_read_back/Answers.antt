use Rattle.yaml_emitter.proofs.layouts.StreamsReadBack.{portable_reads_back}
use Rattle.yaml_emitter.proofs.laws.portable_streams_read_back.Goals as goal

pub returns : goal.returns
returns c = portable_reads_back
