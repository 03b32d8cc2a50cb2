use Rattle.std.proofs.{Common.ap, Common.length, Common.sym, lemmas.Str.encodes-chars}
use Rattle.yaml_emitter.proofs.writing.simple_keys.byte_count.Goals as goal

pub returns : goal.returns
returns c = sym (ap length (encodes-chars c.args.text.now c.utf8.text))
