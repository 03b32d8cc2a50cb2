use Rattle.json.specs.Text.{short_escape}
use Rattle.std.proofs.{Common.arith, lemmas.Grind.common_steps}
use Rattle.yaml_json.proofs.escapes.letter_meaning.Goals as goal

pub returns-in_default-clause-value : goal.returns-in_default-clause-value
unfolding short_escape
returns-in_default-clause-value c = grind (arith, common_steps)

pub returns-in-110-clause-value : goal.returns-in-110-clause-value
unfolding short_escape
returns-in-110-clause-value c = grind (arith, common_steps)

pub returns-in-116-clause-value : goal.returns-in-116-clause-value
unfolding short_escape
returns-in-116-clause-value c = grind (arith, common_steps)

pub returns-in-114-clause-value : goal.returns-in-114-clause-value
unfolding short_escape
returns-in-114-clause-value c = grind (arith, common_steps)

pub returns-in-98-clause-value : goal.returns-in-98-clause-value
unfolding short_escape
returns-in-98-clause-value c = grind (arith, common_steps)

pub returns-in-102-clause-value : goal.returns-in-102-clause-value
unfolding short_escape
returns-in-102-clause-value c = grind (arith, common_steps)

pub returns-in-47-clause-value : goal.returns-in-47-clause-value
unfolding short_escape
returns-in-47-clause-value c = grind (arith, common_steps)
