use Rattle.yaml_scalar.proofs.Common.{length, ◌≡◌, chars, IsUtf8, chars_rest, is_blank_to_line_end}
use Rattle.yaml_scalar.proofs.blanks.is_blank_to_line_end.Given as goal

abbrev pub invariant-loop-c : goal.invariant-loop-c
invariant-loop-c l =
    record {
      is_text : IsUtf8 (chars_rest l.chars);
      same : is_blank_to_line_end (chars l.fn.text) ≡ is_blank_to_line_end (chars (chars_rest l.chars));
    }

abbrev pub decreases-loop-c : goal.decreases-loop-c
decreases-loop-c l = length (chars_rest l.chars)
