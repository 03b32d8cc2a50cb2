use Rattle.yaml_c.proofs.Common.{ℤ, rules, w32, of_z, to_z}
use Rattle.yaml_c.proofs.KeptLemmas.{changed_by}
use Rattle.yaml_c.specs.Kept.{Flushes, OnEmitter, UnlessClosed}
use Rattle.yaml_c.proofs.emitters.yaml_c_emitter_flush.Goals as goal

pub returns : goal.returns
returns c =
    let call = c.flush_kept-status in
    changed_by (λ (status : ℤ). OnEmitter (UnlessClosed status call.new.report (Flushes status call.new.report))) c.args.emitter.now.state
    c.put.new.self.state c.deref_mut.result.now call.new.kept (to_z w32 (of_z w32 call.result)) call.result (search rules) (search rules) (search rules)
    call.ensures.output (search rules) call.ensures.flushed
