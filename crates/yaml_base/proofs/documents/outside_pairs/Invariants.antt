use Rattle.yaml_base.proofs.Common.{drop, ◌≡◌, numbers_of_pairs, first_outside}
use Rattle.yaml_base.proofs.documents.outside_pairs.Given as goal

abbrev pub invariant-loop-pair : goal.invariant-loop-pair
invariant-loop-pair l = first_outside l.count (numbers_of_pairs l.pairs) ≡ first_outside l.count (numbers_of_pairs (drop l.pair-index l.pairs))
