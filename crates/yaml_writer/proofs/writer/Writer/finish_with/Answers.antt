use Rattle.yaml_writer.proofs.Common.{subst, sym, State, is_implicit, FinishesBy}
use Rattle.yaml_writer.proofs.writer.Writer.finish_with.Goals as goal

pub returns-in-Ok-clause-finishes : goal.returns-in-Ok-clause-finishes
returns-in-Ok-clause-finishes g c =
    let bytes = c.yaml_emitter_take_output.result.items in
    subst (λ (emitter : State). FinishesBy (is_implicit c.args.end) emitter bytes) c.into_emitter-emitter.ensures.value
    (subst (FinishesBy (is_implicit c.args.end) c.into_emitter-emitter.result) (sym c.yaml_emitter_take_output.ensures.rest) c.in-Ok.ensures.finishes)
