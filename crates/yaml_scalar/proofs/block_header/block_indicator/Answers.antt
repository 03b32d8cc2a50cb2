use Rattle.std.{proofs.Common.refl, specs.Str.chars}
use Rattle.yaml_scalar.proofs.block_header.block_indicator.Goals as goal

pub returns-in-Literal : goal.returns-in-Literal
unfolding chars
returns-in-Literal c = rw c.in-Literal.is refl

pub returns-in-Folded : goal.returns-in-Folded
unfolding chars
returns-in-Folded c = rw c.in-Folded.is refl
