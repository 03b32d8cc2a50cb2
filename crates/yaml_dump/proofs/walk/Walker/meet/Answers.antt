use Rattle.std.proofs.lemmas.Result.{IfOk-from_err}
use Rattle.yaml_dump.proofs.walk.Walker.meet.Goals as goal

pub returns-in_err-push : goal.returns-in_err-push
returns-in_err-push g c = IfOk-from_err c.from_residual.result _ c.from_residual.ensures.0

pub returns-in_err-push-2 : goal.returns-in_err-push-2
returns-in_err-push-2 g c = IfOk-from_err c.from_residual-in_err-push-2.result _ c.from_residual-in_err-push-2.ensures.0

pub returns-in_err-push-3 : goal.returns-in_err-push-3
returns-in_err-push-3 g c = IfOk-from_err c.from_residual-in_err-push-3.result _ c.from_residual-in_err-push-3.ensures.0
