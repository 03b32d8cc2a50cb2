use Rattle.yaml_dump.proofs.Common.{length, map, ap, subst, sym, ◌∙◌, HasPlaces, seen_step}
use Rattle.yaml_dump.proofs.events.push_walk.Goals as goal

pub push_events-requires : goal.push_events-requires
push_events-requires g c = record {
  counted = ap length c.as_slice.ensures.value ∙ c.in-Ok.ensures.each;
  numbered = c.requires;
  placed = subst (HasPlaces (map seen_step c.args.walk.now)) (sym c.as_slice.ensures.value) c.in-Ok.ensures.placed;
}

pub returns : goal.returns
returns g c = c.push_events.ensures
