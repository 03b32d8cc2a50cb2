use Rattle.yaml_mark.proofs.Common.{flat_map, Ok, take, render_text, byte_escaped, Wrote}
use Rattle.yaml_mark.proofs.writing.write_forms.Given as goal

abbrev pub invariant-loop-byte : goal.invariant-loop-byte
invariant-loop-byte g l = Wrote (render_text (flat_map byte_escaped (take l.byte-index l.bytes))) l.initial.pen l.pen (Ok tt)
