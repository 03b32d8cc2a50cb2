use Rattle.yaml_emitter.proofs.Common.{arith, common_steps, rules, true, [], refl, ap, subst, sym, ◌∙◌, StandsAfter, State}
use Rattle.yaml_emitter.proofs.standing.{EmitterKept.kept_limited, StandingSet.stands_set}
use Rattle.yaml_emitter.specs.Given.{seen_settings}
use Rattle.yaml_emitter.proofs.engine.Engine.set_all.Goals as goal

pub set_all-requires : goal.set_all-requires
set_all-requires g c = c.self.invariant.untouched (ap (λ (s : State). s.has_output) c.self.view_is ∙ c.requires)

pub invariant_of-self : goal.invariant_of-self
invariant_of-self g c = kept_limited c.self.inside c.set_all.new.self c.self.invariant

pub returns-clause-set : goal.returns-clause-set
returns-clause-set g c = first_of (search rules, grind (arith, common_steps))

pub returns-clause-stands : goal.returns-clause-stands
returns-clause-stands g c stands =
    let now : State = record c.args.self.now {
      has_output = true;
      given = seen_settings c.args.settings;
      settings = record c.args.self.now.settings { canonical = c.args.settings.canonical };
      page = record c.args.self.now.page { limit = c.args.settings.limit };
    } in
    subst (λ (s : State). StandsAfter s.given [] s) (sym (returns-clause-set g c)) (stands_set c.args.self.now now refl refl stands)
