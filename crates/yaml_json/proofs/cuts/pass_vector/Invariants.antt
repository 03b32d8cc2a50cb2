use Rattle.yaml_json.proofs.PassingSpecials.{Left}
use Rattle.yaml_json.proofs.cuts.pass_vector.Given as goal

abbrev pub invariant-specials : goal.invariant-specials
invariant-specials l = Left l.text l.cut.scanned l.scan l.left

abbrev pub decreases-specials : goal.decreases-specials
decreases-specials l = l.left
