use Rattle.yaml_c.proofs.Common.{refl}
use Rattle.std.specs.Str.{chars}
use Rattle.yaml_c.proofs.NodeLemmas.{other_kind}
use Rattle.yaml_c.proofs.nodes.kind_tag.Goals as goal

pub returns-then-kind-eq2 : goal.returns-then-kind-eq2
unfolding chars
returns-then-kind-eq2 c = rw c.if-kind-eq2.true refl

pub returns-then-kind-eq3 : goal.returns-then-kind-eq3
unfolding chars
returns-then-kind-eq3 c = rw c.if-kind-eq3.true refl

pub returns-else-kind-eq3 : goal.returns-else-kind-eq3
unfolding chars
returns-else-kind-eq3 c = other_kind c.args.kind c.if-kind-eq2.false c.if-kind-eq3.false
