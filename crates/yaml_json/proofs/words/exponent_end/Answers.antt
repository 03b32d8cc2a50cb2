use Rattle.std.proofs.{Common.arith, lemmas.Grind.common_steps, lemmas.List.drop-drop}
use Rattle.yaml_json.proofs.words.exponent_end.Goals as goal

pub returns-in-69 : goal.returns-in-69
returns-in-69 c = grind (arith, common_steps, drop-drop 1 c.args.from c.args.text.now)
