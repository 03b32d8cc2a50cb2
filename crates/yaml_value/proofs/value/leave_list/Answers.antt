use Rattle.yaml_value.proofs.WeightLemmas.{items_less, weight-List}
use Rattle.yaml_value.proofs.value.leave_list.Goals as goal

pub returns-in-Some : goal.returns-in-Some
returns-in-Some g c = items_less c.args.items.items c.pop.new.self.items c.in-Some.waiting _ c.in-Some.ensures.items (weight-List c.pop.new.self)
