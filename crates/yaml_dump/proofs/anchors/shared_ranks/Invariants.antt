use Rattle.yaml_dump.proofs.Common.{◌≤◌, length, take, map, ◌≡◌, Places, seen_step}
use Rattle.yaml_dump.proofs.anchors.shared_ranks.Given as goal

abbrev pub invariant-loop-step : goal.invariant-loop-step
invariant-loop-step g l = record {
  each : length l.places.items ≡ l.count;
  few : l.shared ≤ l.step-index;
  placed : Places (map seen_step (take l.step-index l.walk)) l.shared l.places.items;
}
