use Rattle.std.proofs.Common.{arith, ◌-◌, ap, ◌∙◌}
use Rattle.yaml_json.proofs.PlacesAfter.{on_line, past_line, front_counted}
use Rattle.yaml_json.proofs.places.position_from.Goals as goal

pub returns-then-line-le1 : goal.returns-then-line-le1
returns-then-line-le1 c front part at follows here within less =
    on_line front part at c.args.start c.args.position (follows (front_counted front at less)) here within less c.if-line-le1.true
    c.saturating_sub.result (c.saturating_sub.ensures ∙ ap (λ n. n - 1) c.saturating_add.ensures)

pub returns-else-line-le1 : goal.returns-else-line-le1
returns-else-line-le1 c front part at follows here within less =
    past_line front part at c.args.start c.args.position (follows (front_counted front at less)) here within less
    (λ few. let many = c.if-line-le1.false in omega (arith, few, many))
    c.saturating_sub-else-line-le1.result (c.saturating_sub-else-line-le1.ensures ∙ ap (λ n. n - 1) c.saturating_add-else-line-le1.ensures)
