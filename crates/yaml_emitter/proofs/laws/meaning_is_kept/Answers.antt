use Rattle.yaml_emitter.proofs.laws.meaning_is_kept.Goals as goal
use Rattle.yaml_emitter.proofs.layouts.Meaning as lemma

pub returns : goal.returns
returns c = lemma.meaning_is_kept
