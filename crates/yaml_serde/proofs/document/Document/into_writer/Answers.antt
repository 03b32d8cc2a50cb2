use Rattle.yaml_serde.proofs.Giving.{gives_value}
use Rattle.yaml_serde.proofs.document.Document.into_writer.Goals as goal

pub returns-clause-gives : goal.returns-clause-gives
returns-clause-gives g c =
    gives_value _ _ c.check_whole-whole.result c.requires c.args.self.stands c.check_whole-whole.ensures.whole c.check_whole-whole.ensures.sound
