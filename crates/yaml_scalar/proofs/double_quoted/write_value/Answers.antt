use Rattle.yaml_scalar.proofs.Common.{chars, None, rules, w32, to_z-of_z, FitsSigned, double_inside, wrote_as, natural, limit_where}
use Rattle.yaml_scalar.proofs.ShortRuns.{short_inside, short_inside_rendered}
use Rattle.yaml_scalar.proofs.double_quoted.write_value.Goals as goal

pub write_short_run-requires-clause-few : goal.write_short_run-requires-clause-few
write_short_run-requires-clause-few g c =
    let quoting = c.args.quoting in
    let fits : FitsSigned w32 quoting.width = search rules in
    let limited = rw (to_z-of_z w32 quoting.width fits) at c.has_limit_where-folds.ensures in
    (short_inside c.ascii_ending_classes.result quoting.unicode (limit_where quoting.allow_breaks quoting.width) c.has_limit_where-folds.result limited
    c.ascii_ending_classes.ensures (c.is_short_run.ensures.run c.if-is_short_run.true)).few

pub write_short_run-requires-clause-plain : goal.write_short_run-requires-clause-plain
write_short_run-requires-clause-plain g c =
    let quoting = c.args.quoting in
    let fits : FitsSigned w32 quoting.width = search rules in
    let limited = rw (to_z-of_z w32 quoting.width fits) at c.has_limit_where-folds.ensures in
    (short_inside c.ascii_ending_classes.result quoting.unicode (limit_where quoting.allow_breaks quoting.width) c.has_limit_where-folds.result limited
    c.ascii_ending_classes.ensures (c.is_short_run.ensures.run c.if-is_short_run.true)).plain

pub returns-then-is_short_run : goal.returns-then-is_short_run
returns-then-is_short_run g c =
    let quoting = c.args.quoting in
    let limit = limit_where quoting.allow_breaks quoting.width in
    let indent = natural quoting.indent in
    let fits : FitsSigned w32 quoting.width = search rules in
    let limited = rw (to_z-of_z w32 quoting.width fits) at c.has_limit_where-folds.ensures in
    let short = short_inside c.ascii_ending_classes.result quoting.unicode limit c.has_limit_where-folds.result limited
    c.ascii_ending_classes.ensures (c.is_short_run.ensures.run c.if-is_short_run.true) in
    wrote_as (double_inside quoting.unicode limit indent None (chars c.args.value.now))
    (short_inside_rendered quoting.unicode limit indent c.args.pen.now.cursor short)
    c.write_short_run.ensures
