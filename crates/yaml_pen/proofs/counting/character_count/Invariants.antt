use Rattle.yaml_pen.proofs.Common.{◌-◌, ◌≤◌, length, take, ◌≡◌}
use Rattle.yaml_pen.proofs.CharacterStarts.{starts}
use Rattle.yaml_pen.proofs.counting.character_count.Given as goal

abbrev pub invariant-loop-place : goal.invariant-loop-place
invariant-loop-place l = record {
  within : l.place ≤ length l.fn.text;
  counted : l.count ≡ starts (take l.place l.fn.text);
  few : l.count ≤ l.place;
}

abbrev pub decreases-loop-place : goal.decreases-loop-place
decreases-loop-place l = length l.fn.text - l.place
