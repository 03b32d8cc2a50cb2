use Rattle.yaml_emitter.proofs.laws.bodies_are_tidy.Goals as goal
use Rattle.yaml_emitter.proofs.layouts.TidyStreams as lemma

pub returns : goal.returns
returns c = lemma.bodies_are_tidy
