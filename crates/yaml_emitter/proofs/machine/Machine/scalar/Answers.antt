use Rattle.yaml_emitter.proofs.Common.{refl, ap, subst, sym, ◌∙◌, scalar, Scalar, Processed, MachineState, StandsPlain}
use Rattle.yaml_emitter.proofs.events_done.NodesDone.{plain_names}
use Rattle.yaml_emitter.proofs.machine.Machine.scalar.Goals as goal

pub returns-in-Node : goal.returns-in-Node
returns-in-Node g c = λ empty.
    let stands = c.if-stands_plain.ensures refl in
    c.put_simple_ascii.ensures c.args.content.now (subst (λ (s : MachineState). StandsPlain s.settings.canonical c.args.content.now) c.self.view_is stands)
    refl
    (plain_names c.args.content.now stands (c.self.invariant.canonical ∙ ap (λ (s : MachineState). s.given.canonical) c.self.view_is)) empty

pub returns-in-Node-2 : goal.returns-in-Node-2
returns-in-Node-2 g c = λ empty.
    subst (λ (content : Scalar). Processed (scalar content) empty c.args.self.now c.put_bare.new.self c.put_bare.result)
    (sym (c.if-is_bare.ensures refl)) (c.put_bare.ensures empty)
