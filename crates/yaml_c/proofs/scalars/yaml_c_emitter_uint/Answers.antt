use Rattle.yaml_c.proofs.Common.{ℤ, rules, w32, of_z, to_z}
use Rattle.yaml_c.proofs.KeptLemmas.{changed_by}
use Rattle.yaml_c.specs.Values.{GaveScalar, Tells}
use Rattle.yaml_c.specs.declared.values.Value.TheVariants as values
use Rattle.yaml_c.proofs.scalars.yaml_c_emitter_uint.Goals as goal

pub returns : goal.returns
returns c =
    let call = c.give_scalar-status in
    changed_by (λ (status : ℤ). Tells (GaveScalar (values.Unsigned c.args.value)) status call.new.report) c.args.emitter.now.state c.put.new.self.state
    c.deref_mut.result.now call.new.kept (to_z w32 (of_z w32 call.result)) call.result (search rules) (search rules) (search rules)
    call.ensures.output (search rules) call.ensures.gave
