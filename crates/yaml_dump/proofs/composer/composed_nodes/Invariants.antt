use Rattle.std.proofs.Common.{◌≡◌, fold, map, take, length}
use Rattle.yaml_base.specs.Seen.{seen_event}
use Rattle.yaml_dump.specs.Composition.{composed, nothing_composed}
use Rattle.yaml_dump.specs.SeenComposer.{seen_composer}
use Rattle.yaml_dump.proofs.composer.composed_nodes.Given as goal

abbrev pub invariant-loop-event : goal.invariant-loop-event
invariant-loop-event g l = seen_composer l.composer ≡ fold composed (nothing_composed (length l.events)) (map seen_event (take l.event-index l.events))
