use Rattle.yaml_base.proofs.Common.{true, ◌≡◌}
use Rattle.yaml_value_rows.proofs.tests.calling.events.check_stream.Given as goal

abbrev pub invariant-loop-step : goal.invariant-loop-step
invariant-loop-step g l = l.emitter.has_output ≡ true
