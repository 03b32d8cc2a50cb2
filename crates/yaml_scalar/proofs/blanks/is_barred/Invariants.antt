use Rattle.yaml_scalar.proofs.Common.{length, ◌≡◌, chars, IsUtf8, chars_rest, somewhere, bars_literal}
use Rattle.yaml_scalar.proofs.blanks.is_barred.Given as goal

abbrev pub invariant-loop-c : goal.invariant-loop-c
invariant-loop-c l =
    record {
      is_text : IsUtf8 (chars_rest l.chars);
      same : somewhere (bars_literal l.fn.charset) (chars l.fn.value)
          ≡ somewhere (bars_literal l.fn.charset) (chars (chars_rest l.chars));
    }

abbrev pub decreases-loop-c : goal.decreases-loop-c
decreases-loop-c l = length (chars_rest l.chars)
