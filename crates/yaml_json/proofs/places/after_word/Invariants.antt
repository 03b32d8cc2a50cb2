use Rattle.std.proofs.Common.{◌-◌, length}
use Rattle.yaml_json.proofs.PassingLexemes.{WithinWord}
use Rattle.yaml_json.proofs.places.after_word.Given as goal

abbrev pub invariant-bytes : goal.invariant-bytes
invariant-bytes l = WithinWord l.text l.from l.at

abbrev pub decreases-bytes : goal.decreases-bytes
decreases-bytes l = length l.text - l.at
