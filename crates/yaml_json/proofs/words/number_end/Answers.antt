use Rattle.json.specs.Word.{after_number}
use Rattle.std.proofs.{Common.arith, lemmas.Grind.common_steps}
use Rattle.yaml_json.proofs.words.number_end.Goals as goal

pub returns-in_err-integer : goal.returns-in_err-integer
unfolding after_number
returns-in_err-integer c = grind (arith, common_steps)

pub returns-in_err-fraction : goal.returns-in_err-fraction
unfolding after_number
returns-in_err-fraction c = grind (arith, common_steps)

pub returns : goal.returns
unfolding after_number
returns c = grind (arith, common_steps)
