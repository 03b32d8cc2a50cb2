use Rattle.yaml_emitter.proofs.Common.{subst, scalar, seen_scalar, State}
use Rattle.yaml_emitter.proofs.{Keeping.takes_scalar}
use Rattle.yaml_emitter.specs.Emits.{TakesScalar}
use Rattle.yaml_emitter.proofs.borrowed.yaml_emitter_emit_scalar.Goals as goal

pub returns-clause-takes : goal.returns-clause-takes
returns-clause-takes g c =
    let event = scalar (seen_scalar c.args.content.now) in
    subst (λ (s : State). TakesScalar s event c.emit_scalar.result c.emit_scalar.new.self) c.emitter.view_is
    (takes_scalar _ _ event c.emit_scalar.result c.emitter.invariant c.emit_scalar.ensures.emits)
