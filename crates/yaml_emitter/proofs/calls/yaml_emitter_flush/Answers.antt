use Rattle.yaml_emitter.proofs.{Keeping.all_flushed}
use Rattle.yaml_emitter.proofs.calls.yaml_emitter_flush.Goals as goal

pub returns-clause-whole : goal.returns-clause-whole
returns-clause-whole g c =
    all_flushed c.emitter.inside.engine c.flush.new.self c.flush.result c.emitter.invariant c.flush.ensures.moves c.flush.ensures.flushed
