use Rattle.yaml_c.proofs.Common.{Some, ap}
use Rattle.yaml_base.specs.Seen.{seen_event}
use Rattle.yaml_c.specs.Giving.{given_event}
use Rattle.yaml_c.proofs.giving.give_event.Goals as goal

pub returns-in-Owned-clause-gave : goal.returns-in-Owned-clause-gave
returns-in-Owned-clause-gave g c =
    let emit = c.yaml_emitter_emit.ensures in (
      seen_event c.in-Owned.event,
      ap (λ given. Some (given_event given)) c.in-Owned.is,
      record { emits = emit.emits; unready = emit.unready; kept = emit.kept },
    )
