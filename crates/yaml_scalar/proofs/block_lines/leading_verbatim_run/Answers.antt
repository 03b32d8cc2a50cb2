use Rattle.yaml_scalar.proofs.Common.{rules, w32, to_z-of_z, FitsSigned}
use Rattle.yaml_scalar.proofs.block_lines.leading_verbatim_run.Goals as goal

pub returns-in-LineStart : goal.returns-in-LineStart
returns-in-LineStart c = rw c.in-LineStart.is c.line_feeds_after.ensures

pub returns-in-Folding : goal.returns-in-Folding
returns-in-Folding c =
    let fits : FitsSigned w32 c.args.lines.width = search rules in
    rw c.in-Folding.is (rw (c.has_limit_where.ensures, to_z-of_z w32 c.args.lines.width fits) at c.line_run_after.ensures)

pub returns-in-Fixed : goal.returns-in-Fixed
returns-in-Fixed c = rw c.in-Fixed.is c.line_run_after-in-Fixed.ensures
