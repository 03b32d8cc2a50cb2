use Rattle.yaml_caller.proofs.Common.{refl}
use Rattle.std.proofs.lemmas.Result.{IfOk-from_err}
use Rattle.yaml_caller.proofs.pairs.events_of_pair.Goals as goal

pub returns-in_err-push : goal.returns-in_err-push
returns-in_err-push g c = IfOk-from_err c.from_residual.result _ c.from_residual.ensures.0

pub returns-in_err-push-2 : goal.returns-in_err-push-2
returns-in_err-push-2 g c = IfOk-from_err c.from_residual-in_err-push-2.result _ c.from_residual-in_err-push-2.ensures.0

pub returns-in_err-push-3 : goal.returns-in_err-push-3
returns-in_err-push-3 g c = IfOk-from_err c.from_residual-in_err-push-3.result _ c.from_residual-in_err-push-3.ensures.0

pub returns-in_err-push-4 : goal.returns-in_err-push-4
returns-in_err-push-4 g c = IfOk-from_err c.from_residual-in_err-push-4.result _ c.from_residual-in_err-push-4.ensures.0

pub returns-in_err-push-5 : goal.returns-in_err-push-5
returns-in_err-push-5 g c = IfOk-from_err c.from_residual-in_err-push-5.result _ c.from_residual-in_err-push-5.ensures.0

pub returns-in_err-push-6 : goal.returns-in_err-push-6
returns-in_err-push-6 g c = IfOk-from_err c.from_residual-in_err-push-6.result _ c.from_residual-in_err-push-6.ensures.0

pub returns-in_err-push-7 : goal.returns-in_err-push-7
returns-in_err-push-7 g c = IfOk-from_err c.from_residual-in_err-push-7.result _ c.from_residual-in_err-push-7.ensures.0

pub returns-in_err-push-8 : goal.returns-in_err-push-8
returns-in_err-push-8 g c = IfOk-from_err c.from_residual-in_err-push-8.result _ c.from_residual-in_err-push-8.ensures.0

pub returns : goal.returns
returns g c =
    rw (c.in_ok-push-8.ensures.items, c.in_ok-push-7.ensures.items, c.in_ok-push-6.ensures.items, c.in_ok-push-5.ensures.items)
    (rw (c.in_ok-push-4.ensures.items, c.in_ok-push-3.ensures.items, c.in_ok-push-2.ensures.items, c.in_ok-push.ensures.items, c.new-events.ensures.items)
    (rw (c.text_event.ensures, c.text_event-2.ensures, c.new.ensures.items) refl))
