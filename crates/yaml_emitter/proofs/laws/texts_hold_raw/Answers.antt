use Rattle.yaml_emitter.proofs.laws.texts_hold_raw.Goals as goal
use Rattle.yaml_emitter.proofs.layouts.RawTexts as lemma

pub returns : goal.returns
returns c = lemma.texts_hold_raw
