use Rattle.yaml_value.proofs.WeightLemmas.{key_less, pairs_less, weight-Map, weight-Null}
use Rattle.yaml_value.specs.declared.value.Value as declared
use Rattle.yaml_value.proofs.value.leave_map.Goals as goal

pub returns-then-is_scalar : goal.returns-then-is_scalar
returns-then-is_scalar g c =
    pairs_less c.args.pairs.items c.pop.new.self.items c.in-Some.key c.in-Some.waiting _ c.in-Some.ensures.items (weight-Map c.pop.new.self)

pub returns-else-is_scalar : goal.returns-else-is_scalar
returns-else-is_scalar g c =
    key_less c.args.pairs.items c.pop.new.self.items c.push_reserved.new.self.items c.in-Some.key declared.Null c.in-Some.waiting _
    c.in-Some.ensures.items c.push_reserved.ensures.items (weight-Null _) (c.is_scalar.ensures.collection c.if-is_scalar.false)
    (weight-Map c.push_reserved.new.self)
