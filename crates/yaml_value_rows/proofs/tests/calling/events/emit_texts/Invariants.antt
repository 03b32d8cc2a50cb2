use Rattle.yaml_base.proofs.Common.{true, ◌≡◌}
use Rattle.yaml_value_rows.proofs.tests.calling.events.emit_texts.Given as goal

abbrev pub invariant-loop-text : goal.invariant-loop-text
invariant-loop-text l = l.emitter.has_output ≡ true
