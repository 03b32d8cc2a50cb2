use Rattle.std.proofs.Common.{ℤ, of_z, to_z, w64}
use Rattle.std.specs.Float.{binary32, binary64}
use Rattle.yaml_serde.proofs.Common.{pos, int_call}
use Rattle.yaml_serde.proofs.Giving.{float_call}
use Rattle.yaml_serde.specs.Documents.{bool_call, bytes_call, null_call}
use Rattle.yaml_writer.specs.{Binary.bytes_event, Writing.bool_event, Writing.int_event, Writing.null_event}
use Rattle.yaml_serde.proofs.scalars.give_scalar.Goals as goal

pub returns-in-Null : goal.returns-in-Null
returns-in-Null c = (null_event c.args.writer.now, null_call c.args.writer.now, c.null.ensures)

pub returns-in-Bool : goal.returns-in-Bool
returns-in-Bool c = (bool_event c.args.writer.now c.in-Bool.value, bool_call c.args.writer.now c.in-Bool.value, c.bool.ensures)

pub returns-in-Int : goal.returns-in-Int
returns-in-Int c =
    let value : ℤ = to_z w64 (of_z w64 c.in-Int.value) in
    (int_event c.args.writer.now value, int_call c.args.writer.now value, c.int.ensures)

pub returns-in-Unsigned : goal.returns-in-Unsigned
returns-in-Unsigned c =
    (int_event c.args.writer.now (pos c.in-Unsigned.value), int_call c.args.writer.now (pos c.in-Unsigned.value), c.unsigned.ensures)

pub returns-in-Single : goal.returns-in-Single
returns-in-Single c = float_call c.args.writer.now c.single.new.self binary32 c.in-Single.value c.single.result c.single.ensures

pub returns-in-Float : goal.returns-in-Float
returns-in-Float c = float_call c.args.writer.now c.float.new.self binary64 c.in-Float.value c.float.result c.float.ensures

pub returns-in-Bytes : goal.returns-in-Bytes
returns-in-Bytes c = (bytes_event c.args.writer.now c.in-Bytes.value.now, bytes_call c.args.writer.now c.in-Bytes.value.now, c.bytes.ensures)
