use Rattle.yaml_emitter.proofs.pieces.Defaults.{defaults_added}
use Rattle.yaml_emitter.proofs.directives.add_defaults.Goals as goal

pub returns-clause-added : goal.returns-clause-added
returns-clause-added g c =
    defaults_added c.args.directives.now c.add_default.new.directives c.add_default-2.new.directives c.add_default-2.result
    c.in_ok-add_default.ensures.added c.add_default-2.ensures.added
