use Rattle.std.proofs.Common.{take}
use Rattle.yaml_writer.specs.WasGiven.{WasGiven}
use Rattle.yaml_caller.specs.Service.{text_items}
use Rattle.yaml_caller.proofs.service.write_items.Given as goal

abbrev pub invariant-loop-text : goal.invariant-loop-text
invariant-loop-text g l = WasGiven l.fn.writer (text_items (take l.text-index l.texts)) l.writer
