use Rattle.yaml_read.proofs.DumpedReads.{one_graph}
use Rattle.yaml_read.proofs.laws.dumped_bytes_tell_graphs.Goals as goal

pub returns : goal.returns
returns c = one_graph
