use Rattle.std.proofs.lemmas.Str.{scalars-chars}
use Rattle.yaml_value.proofs.texts.write_text.Goals as goal

pub returns-clause-holds : goal.returns-clause-holds
returns-clause-holds g c = scalars-chars c.args.value.now c.utf8.value
