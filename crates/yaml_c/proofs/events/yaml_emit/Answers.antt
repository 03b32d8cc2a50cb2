use Rattle.yaml_c.proofs.Common.{option_map, Option, Some, pos, refl, ◌≡◌, ap, subst, sym, ◌∙◌, Settings, events_from, seen_settings}
use Rattle.yaml_c.specs.{Answers.nothing_reported, Emission.IsEmissionBy, GivenSettings.settings_given, declared.events.Emission.TheVariants.NoMemory}
use Rattle.yaml_c.specs.{declared.results.CallResult.CallResult}
use Rattle.yaml_emitter.specs.State.{new_state}
use Rattle.yaml_c.proofs.events.yaml_emit.Goals as goal

pub returns-in_default-with_settings : goal.returns-in_default-with_settings
returns-in_default-with_settings c =
    let read : Some (seen_settings c.in-Some.given) ≡ settings_given c.args.settings.now =
    ap (option_map seen_settings) (sym c.in-Some.is) ∙ c.settings_from.ensures in
    let all = events_from 0 c.args.texts.now c.args.directives.now c.args.events.now in
    subst (λ (report : CallResult). IsEmissionBy (settings_given c.args.settings.now) all c.args.events.now c.args.settings.now.skip c.args.out.now (pos 3)
    c.args.out.now report) (sym c.nothing.ensures)
    (subst (λ (set : Option Settings). IsEmissionBy set all c.args.events.now c.args.settings.now.skip c.args.out.now (pos 3) c.args.out.now nothing_reported)
    read (NoMemory, new_state, tt, refl))
