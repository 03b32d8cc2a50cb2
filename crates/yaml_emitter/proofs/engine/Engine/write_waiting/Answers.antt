use Rattle.yaml_emitter.proofs.Common.{eqb-true, length, ap, subst, sym, ◌∙◌, seen_events, state_of, State}
use Rattle.std.proofs.lemmas.List.{nil_from_length}
use Rattle.yaml_emitter.proofs.standing.EmittingEvents.{settles_none}
use Rattle.yaml_emitter.specs.EmitsEvent.{Settled}
use Rattle.yaml_emitter.proofs.engine.Engine.write_waiting.Goals as goal

pub returns-then-is_empty : goal.returns-then-is_empty
returns-then-is_empty g c = λ last stands.
    subst (λ (s : State). Settled s last s) c.self.view_is
    (settles_none (state_of c.self.inside) last
    (ap seen_events (nil_from_length c.self.inside.queue.items
    (ap length (sym c.as_slice.ensures.value) ∙ eqb-true _ 0 (sym c.is_empty.ensures ∙ c.if-is_empty.true))))
    (ap (λ (s : State). s.error) c.self.view_is ∙ c.requires.no_error))
