use Rattle.yaml_emitter.proofs.Common.{ap, ◌∙◌}
use Rattle.yaml_emitter.proofs.{Keeping.keeps_taken}
use Rattle.yaml_emitter.proofs.standing.{TakenFrom.state_taken}
use Rattle.yaml_emitter.specs.EmitterInside.{engine_of}
use Rattle.yaml_emitter.proofs.calls.yaml_emitter_consume_output.Goals as goal

pub invariant_of-emitter : goal.invariant_of-emitter
invariant_of-emitter g c =
    keeps_taken
    (state_taken c.emitter-inside.inside.0.0 c.emitter.inside.engine c.consume_output.new.self (ap engine_of c.emitter-inside.view_is) c.consume_output.ensures)
    c.emitter.invariant

pub returns : goal.returns
returns g c = record {
  taken =
      state_taken c.emitter-inside.inside.0.0 c.args.emitter.now c.consume_output.new.self (ap engine_of c.emitter-inside.view_is ∙ c.emitter.view_is)
      c.consume_output.ensures;
}
