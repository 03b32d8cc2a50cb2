use Rattle.yaml_scalar.proofs.Common.{◌++◌, ◌≡◌, IsUtf8, chars, chars_rest, length}
use Rattle.yaml_scalar.specs.EscapeBytes.{inside_bytes}
use Rattle.yaml_scalar.proofs.appended.append_inside.Given as goal

abbrev pub invariant-loop-c : goal.invariant-loop-c
invariant-loop-c g l =
    record {
      is_text : IsUtf8 (chars_rest l.chars);
      written : l.bytes.items ++ inside_bytes (chars (chars_rest l.chars)) ≡ l.fn.bytes.items ++ inside_bytes (chars l.fn.text);
    }

abbrev pub decreases-loop-c : goal.decreases-loop-c
decreases-loop-c g l = length (chars_rest l.chars)
