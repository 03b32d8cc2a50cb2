use Rattle.std.proofs.Common.{length, reverse}
use Rattle.toml_ordered.specs.{Passing.AreFilled, Passing.PassesSteps, Reading.steps_of}
use Rattle.toml_ordered.proofs.tables.descend.Given as goal

abbrev pub invariant-steps : goal.invariant-steps
invariant-steps l = PassesSteps (steps_of l.fn.route) (steps_of l.to_pass) l.fn.left l.fn.outermost l.here (AreFilled (reverse l.passed.items))

abbrev pub decreases-steps : goal.decreases-steps
decreases-steps l = length (steps_of l.to_pass)
