use Rattle.yaml_emitter.proofs.Common.{arith, common_steps, rules, refl, ap, State, subst, sym}
use Rattle.yaml_emitter.proofs.{Keeping.Within, Keeping.keeps_given, standing.StandingSet.stands_given}
use Rattle.yaml_emitter.proofs.setters.yaml_emitter_set_canonical.Goals as goal

pub returns : goal.returns
returns g c = record { set = first_of (search rules, grind (arith, common_steps)) }

pub invariant_of-emitter : goal.invariant_of-emitter
invariant_of-emitter g c =
    keeps_given c.emitter.view_is c.requires (ap (λ (s : State). s.events) (returns g c).set)
    (subst Within (sym (returns g c).set)) (λ stands. stands_given c.args.emitter.now _ _ _ (returns g c).set refl stands) c.emitter.invariant
