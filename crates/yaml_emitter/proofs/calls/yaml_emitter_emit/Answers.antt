use Rattle.yaml_emitter.proofs.Common.{None, ap, ◌≡◌, ◌∙◌, subst, sym, written, State}
use Rattle.std.specs.Prelude.{IsOk}
use Rattle.yaml_emitter.proofs.calls.yaml_emitter_emit.Goals as goal

pub returns-clause-unready : goal.returns-clause-unready
returns-clause-unready g c =
    let inside : State = c.emitter.inside.engine in
    let after : State = c.emit.new.self in
    subst (λ (s : State). s.error ≡ None → written after.events ≡ written s.events → IsOk c.emit.result) c.emitter.view_is
    (λ none same.
    c.emit.ensures.waits inside.given inside.events c.emitter.invariant.stands none (ap written (sym c.emit.ensures.moves.set.events) ∙ same))
