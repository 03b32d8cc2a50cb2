use Rattle.yaml_c.proofs.Common.{ℤ, rules, w32, of_z, to_z}
use Rattle.yaml_c.proofs.KeptLemmas.{changed_by}
use Rattle.yaml_c.specs.Kept.{OnEmitter, TakesOutput}
use Rattle.yaml_c.proofs.emitters.yaml_c_emitter_take_output.Goals as goal

pub returns : goal.returns
returns c =
    let call = c.take_from-status in
    changed_by (λ (status : ℤ). OnEmitter (TakesOutput c.args.out.now status call.new.out call.new.report)) c.args.emitter.now.state c.put.new.self.state
    c.deref_mut.result.now call.new.kept (to_z w32 (of_z w32 call.result)) call.result (search rules) (search rules) (search rules)
    call.ensures.output (search rules) call.ensures.taken
