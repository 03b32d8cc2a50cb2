-- An emitter all of whose output is taken: its fields, and the events that its state comes after.
use Rattle.yaml_emitter.proofs.Common.{ap, ◌∙◌, ◌≡◌, state_of, State, MachineState}
use Rattle.yaml_emitter.proofs.Common.{all_taken, with_all_taken}
use Rattle.yaml_emitter.specs.declared.engine.Engine.TheInside as emitter

pub state_taken : {A : Type 0} (e : emitter.Inside A) (before : State) (after : MachineState) → state_of e ≡ before
    → after ≡ record e.machine { page = all_taken e.machine.page } → state_of (record e { machine = after }) ≡ with_all_taken before
state_taken e before after is taken = ap (λ (m : MachineState). state_of (record e { machine = m })) taken ∙ ap with_all_taken is
