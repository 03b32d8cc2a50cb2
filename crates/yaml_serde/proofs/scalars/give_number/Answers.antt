use Rattle.yaml_serde.specs.Documents.{number_call}
use Rattle.yaml_writer.specs.Writing.{number_event}
use Rattle.yaml_serde.proofs.scalars.give_number.Goals as goal

pub returns : goal.returns
returns c =
    let number = c.in-Some.number in
    (number_event c.args.writer.now number, number_call c.args.writer.now number c.in-Some.ensures.bytes.valid, c.number.ensures)
