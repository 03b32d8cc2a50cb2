use Rattle.yaml_dump.proofs.Common.{List, Event, subst, seen_event, map}
use Rattle.std.proofs.lemmas.List.{map-id}
use Rattle.yaml_dump.specs.Dumps.{EmitsEach}
use Rattle.yaml_dump.proofs.emitting.emit_each.Goals as goal

pub returns-clause-emits : goal.returns-clause-emits
returns-clause-emits g c =
    subst (λ (events : List Event). EmitsEach c.args.emitter.now events c.emit_in_form.result c.emit_in_form.new.emitter)
    (map-id (map seen_event c.args.events.items)) c.emit_in_form.ensures.emits
