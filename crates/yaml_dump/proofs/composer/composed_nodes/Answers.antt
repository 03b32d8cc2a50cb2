use Rattle.std.proofs.Common.{ap, ◌∙◌, fold, map, length, arith, take_all}
use Rattle.yaml_base.specs.Seen.{seen_event}
use Rattle.yaml_dump.specs.Composition.{Composition, nothing_composed, composed}
use Rattle.yaml_dump.specs.SeenComposer.{seen_composer}
use Rattle.yaml_dump.proofs.ComposerLemmas.{one_more}
use Rattle.std.proofs.lemmas.Result.{IfOk-from_err}
use Rattle.yaml_dump.proofs.composer.composed_nodes.Goals as goal

pub returns-in_err-composer : goal.returns-in_err-composer
returns-in_err-composer g c = IfOk-from_err c.from_residual.result _ c.from_residual.ensures.0

pub loop-event-preserved : goal.loop-event-preserved
loop-event-preserved g c =
    let events = c.args.events.now in
    one_more events c.loop-event.event-index c.event-item.result (seen_composer c.loop-event.composer) (seen_composer c.take.new.self)
    (nothing_composed (length events))
    (omega (arith, c.loop-event-test.true)) c.event-item.is c.loop-event.invariant c.in-Ok.ensures

pub returns : goal.returns
returns g c =
    let events = c.args.events.now in
    ap (λ (standing : Composition). standing.nodes) c.loop-event.invariant
    ∙ ap (λ list. (fold composed (nothing_composed (length events)) (map seen_event list)).nodes)
    (take_all c.loop-event.event-index events c.loop-event-test.false)
