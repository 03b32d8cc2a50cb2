use Rattle.yaml_dump.proofs.Common.{step_events, seen_step}
use Rattle.yaml_dump.proofs.EventLemmas.{pushed, nothing_pushed}
use Rattle.std.proofs.lemmas.Result.{IfOk-from_err}
use Rattle.yaml_dump.proofs.events.push_event.Goals as goal

pub step_event-requires : goal.step_event-requires
step_event-requires g c = record { counted = c.requires.counted; placed = c.requires.placed }

pub returns-in_default-clause-event : goal.returns-in_default-clause-event
returns-in_default-clause-event g c = tt

pub returns-in_default-clause-held : goal.returns-in_default-clause-held
returns-in_default-clause-held g c = c.step_event.ensures.held

pub returns-in_err-push-clause-event : goal.returns-in_err-push-clause-event
returns-in_err-push-clause-event g c = IfOk-from_err c.from_residual.result _ c.from_residual.ensures.0

pub returns-in_err-push-clause-held : goal.returns-in_err-push-clause-held
returns-in_err-push-clause-held g c = c.step_event.ensures.held

pub returns-in_ok-push-clause-held : goal.returns-in_ok-push-clause-held
returns-in_ok-push-clause-held g c = c.step_event.ensures.held

pub returns-in_default-found-clause-held : goal.returns-in_default-found-clause-held
returns-in_default-found-clause-held g c = c.step_event.ensures.held

pub returns-in_ok-push-clause-event : goal.returns-in_ok-push-clause-event
returns-in_ok-push-clause-event g c graph walk before has_places holds first =
    pushed c.args.events.now.items c.push.new.self.items c.in-Some.event c.in-Ok.found
    (step_events graph walk (seen_step c.args.step)) c.in_ok-push.ensures.items c.in-Some.is
    (c.in-Ok.ensures.event graph walk before has_places holds first)

pub returns-in_default-found-clause-event : goal.returns-in_default-found-clause-event
returns-in_default-found-clause-event g c graph walk before has_places holds first =
    nothing_pushed c.args.events.now.items c.in-Ok.found (step_events graph walk (seen_step c.args.step)) c.in_default-found.is
    (c.in-Ok.ensures.event graph walk before has_places holds first)
