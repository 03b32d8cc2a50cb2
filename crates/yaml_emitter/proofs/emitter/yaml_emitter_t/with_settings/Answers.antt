use Rattle.yaml_emitter.proofs.Common.{ap, ◌∙◌, refl, subst, State, Settings, StandsAfter, [], sym}
use Rattle.yaml_emitter.proofs.{Keeping.keeps_new}
use Rattle.yaml_emitter.proofs.emitter.yaml_emitter_t.with_settings.Goals as goal

pub invariant_of-result : goal.invariant_of-result
invariant_of-result g c =
    let given = ap (λ (s : State). s.given) c.in_ok-engine.ensures.made in
    keeps_new c.set_all.new.self c.set_all.new.self.given
    (ap (λ (s : State). s.events) c.set_all.ensures.set ∙ ap (λ (s : State). s.events) c.in_ok-engine.ensures.made) refl
    (ap (λ (s : State). s.page.taken) c.set_all.ensures.set ∙ ap (λ (s : State). s.page.taken) c.in_ok-engine.ensures.made)
    (c.set_all.ensures.stands (subst (λ (s : Settings). StandsAfter s [] c.in_ok-engine.engine) (sym given) c.in_ok-engine.ensures.stands))
