use Rattle.std.proofs.lemmas.Result.{IfOk-from_err}
use Rattle.yaml_caller.proofs.cycles.cycle_nodes.Goals as goal

pub returns-in_err-push : goal.returns-in_err-push
returns-in_err-push g c = record {
  seen = IfOk-from_err c.from_residual.result _ c.from_residual.ensures.0;
  count = IfOk-from_err c.from_residual.result _ c.from_residual.ensures.0;
  numbers = IfOk-from_err c.from_residual.result _ c.from_residual.ensures.0;
}

pub returns-in_err-push-2 : goal.returns-in_err-push-2
returns-in_err-push-2 g c = record {
  seen = IfOk-from_err c.from_residual-in_err-push-2.result _ c.from_residual-in_err-push-2.ensures.0;
  count = IfOk-from_err c.from_residual-in_err-push-2.result _ c.from_residual-in_err-push-2.ensures.0;
  numbers = IfOk-from_err c.from_residual-in_err-push-2.result _ c.from_residual-in_err-push-2.ensures.0;
}
