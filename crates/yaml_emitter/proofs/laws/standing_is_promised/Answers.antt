use Rattle.yaml_emitter.proofs.laws.standing_is_promised.Goals as goal
use Rattle.yaml_emitter.proofs.standing.Promising as lemma

pub returns : goal.returns
returns c = lemma.promised
