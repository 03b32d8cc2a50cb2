use Rattle.yaml_caller.proofs.Common.{Some, ◌≡◌, ap, sym, ◌∙◌}
use Rattle.std.proofs.Common.{None, ℕ}
use Rattle.yaml_base.proofs.Common.{all_numbers, first_outside}
use Rattle.yaml_caller.proofs.cycles.cycle.Goals as goal

pub unreachable-unreachable : goal.unreachable-unreachable
unreachable-unreachable g c =
    let numbers = all_numbers c.in-Ok.nodes.items in
    let inside = ap (λ (count : ℕ). first_outside count numbers) c.in-Ok.ensures.count ∙ ap (first_outside 2) c.in-Ok.ensures.numbers in
    absurd (let none : None ≡ Some c.in-Err.field-0.0 = sym inside ∙ c.in-Err.ensures.whole in cc)
