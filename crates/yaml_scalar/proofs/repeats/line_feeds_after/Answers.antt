use Rattle.yaml_scalar.proofs.Common.{◌==◌, ℕ, line_feed, sym, subst, IsRun}
use Rattle.yaml_scalar.proofs.{Repeated.line_feeds_run_after, StaysInLine.positive, WholeRuns.no_run}
use Rattle.yaml_scalar.proofs.repeats.line_feeds_after.Goals as goal

pub returns-then-length-eq0 : goal.returns-then-length-eq0
returns-then-length-eq0 c =
    subst (λ (n : ℕ). IsRun (λ d. d == line_feed) c.args.before c.args.text.now n c.args.before) (sym c.if-length-eq0.true)
    (no_run (λ d. d == line_feed) c.args.before c.args.text.now c.utf8.text)

pub returns-else-length-eq0 : goal.returns-else-length-eq0
returns-else-length-eq0 c =
    line_feeds_run_after c.args.before c.leading_copies-length.result c.args.text.now c.utf8.text c.leading_copies-length.ensures
    (positive c.leading_copies-length.result c.if-length-eq0.false)
