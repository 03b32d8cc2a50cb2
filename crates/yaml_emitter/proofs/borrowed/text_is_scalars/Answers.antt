use Rattle.std.proofs.lemmas.Str.{scalars-chars}
use Rattle.yaml_emitter.proofs.borrowed.text_is_scalars.Goals as goal

pub returns : goal.returns
returns c = scalars-chars c.args.text.now c.utf8.text
