use Rattle.yaml_program.proofs.LineLemmas.{line_to, one_line}
use Rattle.yaml_program.proofs.differences.split_line.Goals as goal

pub returns-in-Some-clause-line : goal.returns-in-Some-clause-line
returns-in-Some-clause-line c = line_to c.args.text.now c.in-Some.end c.in-Some.ensures.0.high c.in-Some.ensures.0.before c.in-Some.ensures.1

pub returns-in-None-clause-line : goal.returns-in-None-clause-line
returns-in-None-clause-line c = one_line c.args.text.now c.in-None.ensures
