use Rattle.yaml_serde.proofs.Gave.{finished_document}
use Rattle.yaml_serde.proofs.serializing.to_vec_with.Goals as goal

pub returns : goal.returns
returns g c =
    finished_document c.in_ok-writer.ensures.made c.write_with.new.writer.emitter c.in_ok-finish.field-0.items
    c.in_ok-finish.ensures.finishes c.in_ok-write_with.ensures.part.gives
