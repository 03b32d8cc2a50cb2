use Rattle.yaml_dump.proofs.SameEventLemmas.{events_told}
use Rattle.yaml_dump.proofs.same_events.are_same.Goals as goal

pub returns : goal.returns
returns g c = events_told g.row.A g.A.Allocator g.A.Allocator-dict g.A.Destruct-dict c.args.first.now c.args.second.now c.eq.result c.eq.ensures
