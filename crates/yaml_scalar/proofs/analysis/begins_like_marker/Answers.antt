use Rattle.yaml_scalar.proofs.Common.{sym, ◌∙◌}
use Rattle.yaml_scalar.proofs.FirstCharacters.{marker-of-three, marker-of-two, marker-of-one}
use Rattle.yaml_scalar.proofs.analysis.begins_like_marker.Goals as goal

pub returns-in-Some-Some-Some : goal.returns-in-Some-Some-Some
returns-in-Some-Some-Some c =
    let taken = c.in-Some-Some-Some in
    marker-of-three _ _ _ _ _ _ _ c.utf8.value (sym c.chars-chars.ensures.rest ∙ taken.ensures.steps.0) taken.ensures'.steps.0 taken.ensures''.steps.0

pub returns-in_default : goal.returns-in_default
returns-in_default c =
    let taken = c.in_default in
    marker-of-two _ _ _ _ _ c.utf8.value (sym c.chars-chars.ensures.rest ∙ taken.ensures.steps.0) taken.ensures'.steps.0 taken.ensures''.steps.0.0

pub returns-in_default-2 : goal.returns-in_default-2
returns-in_default-2 c =
    let taken = c.in_default in
    let ends = rw taken.is-1 at c.next-2.ensures in
    marker-of-one _ _ _ c.utf8.value (sym c.chars-chars.ensures.rest ∙ taken.ensures.steps.0) ends.steps.0.0
