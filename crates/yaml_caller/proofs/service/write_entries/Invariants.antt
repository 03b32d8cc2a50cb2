use Rattle.std.proofs.Common.{take}
use Rattle.yaml_writer.specs.WasGiven.{WasGiven}
use Rattle.yaml_caller.specs.Service.{label_entries}
use Rattle.yaml_caller.proofs.service.write_entries.Given as goal

abbrev pub invariant-loop-key : goal.invariant-loop-key
invariant-loop-key g l = WasGiven l.fn.writer (label_entries (take l.key-index l.labels)) l.writer
