use Rattle.yaml_base.proofs.Common.{drop, ◌≡◌, first_outside}
use Rattle.yaml_base.proofs.documents.outside_items.Given as goal

abbrev pub invariant-loop-item : goal.invariant-loop-item
invariant-loop-item l = first_outside l.count l.items ≡ first_outside l.count (drop l.item-index l.items)
