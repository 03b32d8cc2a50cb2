use Rattle.yaml_emitter.proofs.Common.{Ok, take, map, render_tag_directives, seen_directive, Wrote}
use Rattle.yaml_emitter.proofs.writing.directives.write_tag_directives.Given as goal

abbrev pub invariant-loop-directive : goal.invariant-loop-directive
invariant-loop-directive g l =
    Wrote (render_tag_directives l.settings.portable (map seen_directive (take l.directive-index l.directives))) l.initial.pen l.pen (Ok tt)
