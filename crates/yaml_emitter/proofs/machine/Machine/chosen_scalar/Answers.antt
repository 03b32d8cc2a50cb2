use Rattle.yaml_emitter.proofs.Common.{Bool, ap, sym, ◌∙◌, scalar, name_or_tag_fault, seen_scalar, MachineState}
use Rattle.yaml_emitter.proofs.events_done.DocumentsDone.{names_refused}
use Rattle.yaml_emitter.proofs.machine.Machine.chosen_scalar.Goals as goal

pub put_chosen-requires-clause-names : goal.put_chosen-requires-clause-names
put_chosen-requires-clause-names g c =
    let event = scalar (seen_scalar c.args.content.now) in
    sym
    (c.in-Ok.ensures
    ∙ ap (λ (b : Bool). name_or_tag_fault b event) (c.self.invariant.canonical ∙ ap (λ (s : MachineState). s.given.canonical) c.self.view_is))

pub returns-in-Err : goal.returns-in-Err
returns-in-Err g c = λ empty.
    let event = scalar (seen_scalar c.args.content.now) in
    names_refused event empty c.args.self.now c.in-Err.error
    (c.in-Err.ensures
    ∙ ap (λ (b : Bool). name_or_tag_fault b event) (c.self.invariant.canonical ∙ ap (λ (s : MachineState). s.given.canonical) c.self.view_is))
