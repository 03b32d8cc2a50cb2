use Rattle.yaml_scalar.proofs.Common.{natural, chars, limit_where, sym, ◌∙◌, rules, w32, to_z-of_z, FitsSigned as SFits}
use Rattle.yaml_scalar.proofs.InsideSteps.{wrote_fold, wrote_unfolded}
use Rattle.yaml_scalar.proofs.double_quoted.write_next.Goals as goal

pub returns-then-folds : goal.returns-then-folds
returns-then-folds g c =
    let quoting = c.args.quoting in
    let fits : SFits w32 quoting.indent = search rules in
    wrote_fold quoting.unicode (limit_where quoting.allow_breaks quoting.width) (natural quoting.indent) c.args.before c.args.c (chars c.args.rest.now)
    {start = c.args.pen.now} (sym c.folds.ensures ∙ c.if-folds.true) (rw (to_z-of_z w32 quoting.indent fits) at c.write_fold.ensures)

pub returns-else-folds : goal.returns-else-folds
returns-else-folds g c =
    let quoting = c.args.quoting in
    wrote_unfolded quoting.unicode (limit_where quoting.allow_breaks quoting.width) (natural quoting.indent) c.args.before c.args.c (chars c.args.rest.now)
    {start = c.args.pen.now} (sym c.folds.ensures ∙ c.if-folds.false) c.write_character.ensures
