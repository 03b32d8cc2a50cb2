use Rattle.yaml_emitter.proofs.Common.{ap, State}
use Rattle.yaml_emitter.proofs.{Keeping.keeps_new}
use Rattle.yaml_base.specs.Settings.{nothing_given}
use Rattle.yaml_emitter.proofs.emitter.yaml_emitter_initialize.Goals as goal

pub invariant_of-result : goal.invariant_of-result
invariant_of-result g c =
    keeps_new c.in_ok-engine.engine nothing_given (ap (λ (s : State). s.events) c.in_ok-engine.ensures.made)
    (ap (λ (s : State). s.given) c.in_ok-engine.ensures.made) (ap (λ (s : State). s.page.taken) c.in_ok-engine.ensures.made) c.in_ok-engine.ensures.stands
