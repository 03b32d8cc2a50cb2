use Rattle.yaml_emitter.proofs.Common.{drop, take, map, ◌≡◌, seen_directive, directives_fault_after, directives_fault}
use Rattle.yaml_emitter.proofs.directives.read_directives.Given as goal

abbrev pub invariant-loop-directive : goal.invariant-loop-directive
invariant-loop-directive g l =
    record {
      read : l.directives ≡ map seen_directive (take l.directive-index l.own);
      what_is_left : directives_fault_after l.directives (map seen_directive (drop l.directive-index l.own)) ≡ directives_fault (map seen_directive l.own);
    }
