use Rattle.yaml_caller.proofs.Common.{bytes_eq, ◌≡◌, rules}
use Rattle.yaml_value.proofs.Common.{seen_value}
use Rattle.yaml_caller.proofs.SameBytes.{same_decides}
use Rattle.std.proofs.lemmas.Result.{IfOk-from_err}
use Rattle.yaml_caller.proofs.values.same_bytes.Goals as goal

pub returns-in_err-first-clause-same : goal.returns-in_err-first-clause-same
returns-in_err-first-clause-same g c = IfOk-from_err c.from_residual.result _ c.from_residual.ensures.0

pub returns-in_err-second-clause-same : goal.returns-in_err-second-clause-same
returns-in_err-second-clause-same g c = IfOk-from_err c.from_residual-in_err-second.result _ c.from_residual-in_err-second.ensures.0

pub returns-clause-same : goal.returns-clause-same
returns-clause-same g c =
    let is : c.eq.result ≡ bytes_eq c.in_ok-first.first.items c.in_ok-second.second.items = search rules in
    same_decides (seen_value c.args.first.now)
    (seen_value c.args.second.now) c.in_ok-first.first.items c.in_ok-second.second.items c.eq.result c.in_ok-first.ensures.written
    c.in_ok-second.ensures.written is
