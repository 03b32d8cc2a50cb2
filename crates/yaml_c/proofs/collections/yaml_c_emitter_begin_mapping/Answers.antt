use Rattle.yaml_c.proofs.Common.{ℤ, rules, w32, of_z, to_z}
use Rattle.yaml_c.proofs.KeptLemmas.{changed_by}
use Rattle.yaml_c.specs.EventRecords.{collection_style_numbered}
use Rattle.yaml_c.specs.Values.{GaveMapping, Tells}
use Rattle.yaml_c.proofs.collections.yaml_c_emitter_begin_mapping.Goals as goal

pub returns : goal.returns
returns c =
    let call = c.begin_mapping-status in
    changed_by (λ (status : ℤ). Tells (GaveMapping (collection_style_numbered c.args.style)) status call.new.report) c.args.emitter.now.state
    c.put.new.self.state c.deref_mut.result.now call.new.kept (to_z w32 (of_z w32 call.result)) call.result (search rules) (search rules) (search rules)
    call.ensures.output (search rules) call.ensures.gave
