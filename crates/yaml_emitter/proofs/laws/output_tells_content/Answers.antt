use Rattle.yaml_emitter.proofs.laws.output_tells_content.Goals as goal
use Rattle.yaml_emitter.proofs.layouts.StreamOutput as lemma

pub returns : goal.returns
returns c = record { reads = lemma.output_reads_back; tells = lemma.output_tells_content }
