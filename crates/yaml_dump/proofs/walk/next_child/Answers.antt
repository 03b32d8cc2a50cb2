use Rattle.yaml_dump.proofs.Common.{arith, graph_of}
use Rattle.std.proofs.lemmas.Grind.{common_steps}
use Rattle.yaml_dump.proofs.ChildLemmas.{child_named}
use Rattle.yaml_dump.proofs.walk.next_child.Goals as goal

pub returns-clause-named : goal.returns-clause-named
returns-clause-named g c = child_named (graph_of c.args.document.now) c.args.visit.number c.args.visit.met c.number_at.result c.numbers_name_nodes.ensures
    (grind (arith, common_steps))
