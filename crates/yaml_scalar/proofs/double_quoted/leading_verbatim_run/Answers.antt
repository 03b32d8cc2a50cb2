use Rattle.yaml_scalar.proofs.Common.{Bool, subst, rules, w32, to_z-of_z, FitsSigned, IsRun, stays_where}
use Rattle.yaml_scalar.proofs.double_quoted.leading_verbatim_run.Goals as goal

pub returns : goal.returns
returns c =
    let quoting = c.args.quoting in
    let fits : FitsSigned w32 quoting.width = search rules in
    let limited = rw (to_z-of_z w32 quoting.width fits) at c.has_limit_where-folds.ensures in
    subst (λ (f : Bool). IsRun (stays_where quoting.unicode f) c.args.before c.args.text.now c.run_up_to.result.length c.run_up_to.result.last) limited
    (c.run_up_to.ensures (stays_where quoting.unicode c.has_limit_where-folds.result) c.ending_classes.ensures)
