use Rattle.yaml_dump.proofs.Common.{[], map, subst, sym, seen_step}
use Rattle.yaml_base.specs.graphs.SeenNodes.{seen_node}
use Rattle.yaml_dump.specs.Events.{HoldsTexts}
use Rattle.yaml_dump.proofs.EventLemmas.{outline_walked, events_walked}
use Rattle.std.proofs.lemmas.Result.{IfOk-from_err}
use Rattle.yaml_dump.proofs.events.events_of_walk.Goals as goal

pub returns-in_err-push : goal.returns-in_err-push
returns-in_err-push g c = IfOk-from_err c.from_residual.result _ c.from_residual.ensures.0

pub returns : goal.returns
returns g c graph is holds =
    let whole = outline_walked graph c.args.outline c.as_slice.result.now c.as_slice.ensures.value is in
    let held = subst (λ nodes. HoldsTexts graph [] (map seen_node nodes)) (sym c.as_mut_slice.ensures.value) holds in
    events_walked graph (map seen_step c.as_slice.result.now) c.args.outline.end_implicit c.args.outline.events.items
    c.push_walk.new.events.items c.push.new.self.items is.begun is.end_implicit (c.in-Ok.ensures graph whole held) c.in_ok-push.ensures.items whole
