use Rattle.std.proofs.Common.{◌≡◌, fold}
use Rattle.yaml_dump.specs.Composition as composition
use Rattle.yaml_dump.proofs.anchor_numbers.number_in_name.Given as goal

abbrev pub invariant-loop-character : goal.invariant-loop-character
invariant-loop-character l = l.number ≡ fold composition.with_digit 0 l.yielded
