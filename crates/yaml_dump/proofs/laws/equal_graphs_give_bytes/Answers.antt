use Rattle.yaml_dump.proofs.laws.equal_graphs_give_bytes.Goals as goal
use Rattle.yaml_dump.proofs.EqualBytesLemmas as lemma

pub returns : goal.returns
returns c = lemma.equal_graphs_give_bytes
