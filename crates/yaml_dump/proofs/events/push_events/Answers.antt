use Rattle.yaml_dump.proofs.Common.{length, take, map, ◌++◌, append-nil, flat_map, ap, subst, sym, ◌∙◌, seen_events, step_events, seen_step}
use Rattle.std.proofs.Common.{take_all}
use Rattle.yaml_base.specs.graphs.SeenNodes.{seen_node}
use Rattle.yaml_dump.{proofs.AnchorLemmas.step_placed, proofs.AnchorLemmas.seen_more, proofs.EventLemmas.events_more}
use Rattle.yaml_dump.specs.{Events.HoldsTexts, declared.steps.Step.TheVariants.Enters}
use Rattle.yaml_dump.proofs.HoldLemmas.{next_is_first}
use Rattle.yaml_dump.proofs.events.push_events.Goals as goal

pub push_event-requires-clause-placed : goal.push_event-requires-clause-placed
push_event-requires-clause-placed g c =
    step_placed c.args.walk.now (length c.args.nodes.now) c.loop-step.step-index c.args.places.now
    (Enters 0) c.requires.numbered c.loop-step-test.true c.requires.counted c.requires.placed

pub loop-step-preserved : goal.loop-step-preserved
loop-step-preserved g c graph whole holds =
    let now = c.loop-step in
    let walk = c.args.walk.now in
    let so_far = now.invariant graph whole holds in
    let first = next_is_first graph walk now.step-index (Enters 0) whole c.loop-step-test.true in (
      events_more (step_events graph (map seen_step walk)) walk now.step-index (Enters 0) (seen_events c.args.events.now.items) (seen_events now.events.items)
          (seen_events c.push_event.new.events.items) c.loop-step-test.true so_far.0
          (c.in-Ok.ensures.event graph (map seen_step walk) (map seen_step (take now.step-index walk)) c.requires.placed so_far.1 first),
      subst (λ steps. HoldsTexts graph steps (map seen_node c.push_event.new.nodes)) (sym (seen_more walk now.step-index (Enters 0) c.loop-step-test.true))
          (c.push_event.ensures.held graph (map seen_step (take now.step-index walk)) so_far.1),
    )

pub loop-step-init : goal.loop-step-init
loop-step-init g c graph whole holds = (sym (append-nil (seen_events c.args.events.now.items)), holds)

pub returns : goal.returns
returns g c graph whole holds =
    let walk = c.args.walk.now in
    (c.loop-step.invariant graph whole holds).0
    ∙ ap (λ steps. seen_events c.args.events.now.items ++ flat_map (step_events graph (map seen_step walk)) (map seen_step steps))
    (take_all c.loop-step.step-index walk c.loop-step-test.false)
