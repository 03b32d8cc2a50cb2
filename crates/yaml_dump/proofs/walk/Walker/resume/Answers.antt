use Rattle.std.proofs.lemmas.Result.{IfOk-from_err}
use Rattle.yaml_dump.proofs.walk.Walker.resume.Goals as goal

pub returns-in_err-push-in-Some : goal.returns-in_err-push-in-Some
returns-in_err-push-in-Some g c = IfOk-from_err c.from_residual.result _ c.from_residual.ensures.0

pub returns-in_err-push-in-None : goal.returns-in_err-push-in-None
returns-in_err-push-in-None g c = IfOk-from_err c.from_residual-in_err-push-in-None.result _ c.from_residual-in_err-push-in-None.ensures.0
