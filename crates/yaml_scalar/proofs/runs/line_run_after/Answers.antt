use Rattle.yaml_scalar.proofs.Common.{stays_in_line}
use Rattle.yaml_scalar.proofs.runs.line_run_after.Goals as goal

pub returns : goal.returns
returns c = c.run_up_to.ensures (stays_in_line c.args.ends.space c.args.ends.quote) c.ending_classes.ensures
