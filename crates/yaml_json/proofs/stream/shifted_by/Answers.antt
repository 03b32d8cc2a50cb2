use Rattle.yaml_json.proofs.Common.{◌≡◌, [], ap, subst, ◌∙◌, HasPlaceWithin}
use Rattle.yaml_json.{proofs.TextStops.fault_shifted, specs.declared.error.JsonError.TheVariants.NotJson, specs.declared.error.StreamError.TheVariants.Refused}
use Rattle.yaml_json.proofs.stream.shifted_by.Goals as goal

pub returns-in-Refused-NotJson-clause-place : goal.returns-in-Refused-NotJson-clause-place
returns-in-Refused-NotJson-clause-place c depth front part follows placed =
    let here = c.in-Refused-NotJson in
    let inner : here.field-0 ≡ NotJson here.position here.expected = rw here.is at here.field-0-is in
    fault_shifted depth front part c.args.start here.position c.position_from-position.result here.expected follows c.position_from-position.ensures
    (subst (HasPlaceWithin depth [] part) (here.is ∙ ap Refused inner) placed)
