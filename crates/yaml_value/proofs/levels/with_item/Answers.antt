use Rattle.yaml_value.proofs.Common.{ap, ◌∙◌, TypedValues, seen_values}
use Rattle.yaml_value.specs.OpenLevels.{items_open}
use Rattle.yaml_value.proofs.SeenLevels.{item_more}
use Rattle.yaml_value.proofs.levels.with_item.Goals as goal

pub returns : goal.returns
returns g c =
    ap (λ (items : TypedValues). items_open items) (ap seen_values c.in_ok-push.ensures.items ∙ item_more c.args.items.items c.args.item)
