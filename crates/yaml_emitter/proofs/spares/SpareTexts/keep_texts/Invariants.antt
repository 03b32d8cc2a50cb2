use Rattle.yaml_emitter.proofs.Common.{vec_len, vec_capacity, ◌≡◌}
use Rattle.yaml_emitter.proofs.spares.SpareTexts.keep_texts.Given as goal

abbrev pub invariant-events : goal.invariant-events
invariant-events g l = record { room : vec_capacity l.queue ≡ vec_capacity l.initial.queue }

abbrev pub decreases-events : goal.decreases-events
decreases-events g l = vec_len l.queue
