use Rattle.yaml_dump.proofs.Common.{graph_of, ◌∙◌}
use Rattle.yaml_dump.proofs.Formed.{typed_told}
use Rattle.yaml_dump.proofs.dumps.yaml_emitter_dump_typed.Goals as goal

pub returns : goal.returns
returns g c =
    let told = typed_told (graph_of c.args.document) c.args.emitter.now c.dump_in_form.new.emitter c.dump_in_form.result c.dump_in_form.ensures in
    record { failed = told.failed; dumps = told.dumps; opened = told.opened; output = told.output ∙ c.requires }
