use Rattle.yaml_emitter.proofs.laws.encoded_alike.Goals as goal
use Rattle.yaml_emitter.proofs.layouts.EncodedAlike as lemma

pub returns : goal.returns
returns c = lemma.encoded_alike
