use Rattle.yaml_dump.proofs.Common.{◌-◌, length, graph_of, seen_walker}
use Rattle.yaml_dump.proofs.WalkStateLemmas.{Stands}
use Rattle.yaml_base.specs.graphs.Meetings as meetings
use Rattle.yaml_dump.proofs.walk.walk.Given as goal

abbrev pub invariant-loop-visit : goal.invariant-loop-visit
invariant-loop-visit g l = Stands (graph_of l.document) (seen_walker l.walker)

abbrev pub decreases-loop-visit : goal.decreases-loop-visit
decreases-loop-visit g l = length (meetings.graph_steps (graph_of l.document)) - length (seen_walker l.walker).steps
