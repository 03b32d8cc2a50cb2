use Rattle.yaml_emitter.proofs.Common.{arith, common_steps, rules, ap, ◌∙◌}
use Rattle.yaml_base.specs.{Seen.seen_event}
use Rattle.yaml_emitter.{proofs.events_done.ProcessedBy.processed_as}
use Rattle.yaml_emitter.proofs.machine.Machine.process.Goals as goal

pub returns-in-YAML_SCALAR_EVENT : goal.returns-in-YAML_SCALAR_EVENT
returns-in-YAML_SCALAR_EVENT g c =
    processed_as (seen_event c.args.event.now)
    _ c.args.empty c.args.self.now c.scalar.new.self c.scalar.result
    (ap seen_event c.in-YAML_SCALAR_EVENT.is ∙ first_of (search rules, grind (arith, common_steps)))
    (c.scalar.ensures c.args.empty)
