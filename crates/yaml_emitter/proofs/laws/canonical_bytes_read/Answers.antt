use Rattle.yaml_emitter.proofs.laws.canonical_bytes_read.Goals as goal
use Rattle.yaml_emitter.proofs.canonical.Canonical as lemma

pub returns : goal.returns
returns c = lemma.canonical_bytes_read
