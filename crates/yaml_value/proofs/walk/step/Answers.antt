use Rattle.yaml_value.proofs.Common.{List, [], map, ◌++◌, ◌∷◌, append_assoc, ap, ◌∙◌, TypedValue, seen_value}
use Rattle.yaml_base.proofs.Common.{Option, Some}
use Rattle.yaml_value.specs.Walk.{Left, entered, seen_rest, stepped_by}
use Rattle.yaml_value.proofs.WalkLemmas.{popped}
use Rattle.yaml_value.proofs.walk.step.Goals as goal

pub returns : goal.returns
returns g c =
    let outer = map seen_rest c.args.levels.now.items in
    let value = seen_value c.in-Some.value.now in
    ap (λ (levels : List Left). (Some value, levels))
    (c.in_ok-enter.ensures
    ∙ ap (λ levels. levels ++ entered value) (popped c.push.new.self.items c.args.levels.now.items c.in-Some.others c.in_ok-push.ensures.items)
    ∙ append_assoc outer (seen_rest c.in-Some.others ∷ []) (entered value))
    ∙ ap (λ (parts : Option (TypedValue × Left)). stepped_by outer parts) c.in-Some.ensures
