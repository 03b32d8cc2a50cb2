use Rattle.yaml_dump.proofs.laws.typed_dumps_read_back.Goals as goal
use Rattle.yaml_dump.proofs.TypedDumpLemmas as lemma

pub returns : goal.returns
returns c = lemma.typed_dumps_read
