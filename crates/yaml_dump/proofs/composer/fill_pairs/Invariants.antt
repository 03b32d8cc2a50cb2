use Rattle.std.proofs.Common.{◌≡◌, ◌++◌, ◌*◌, map, drop}
use Rattle.yaml_base.specs.graphs.SeenNodes.{seen_number, seen_pair}
use Rattle.yaml_dump.specs.Composition.{pairs_of_list}
use Rattle.yaml_dump.proofs.composer.fill_pairs.Given as goal

abbrev pub invariant-loop-place : goal.invariant-loop-place
invariant-loop-place g l = map seen_pair l.made.items ++ pairs_of_list (map seen_number (drop (2 * l.place) l.numbers)) ≡ pairs_of_list (map seen_number l.numbers)
