use Rattle.yaml_emitter.proofs.laws.streams_agree.Goals as goal
use Rattle.yaml_emitter.proofs.layouts.RawTexts as lemma

pub returns : goal.returns
returns c = lemma.streams_agree
