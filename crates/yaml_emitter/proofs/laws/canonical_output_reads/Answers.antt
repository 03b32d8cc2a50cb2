use Rattle.yaml_emitter.proofs.canonical.CanonicalOutput.{output_reads, output_tells}
use Rattle.yaml_emitter.proofs.laws.canonical_output_reads.Goals as goal

pub returns : goal.returns
returns c = record { reads = output_reads; tells = output_tells }
