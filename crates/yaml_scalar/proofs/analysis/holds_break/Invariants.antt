use Rattle.yaml_scalar.proofs.Common.{chars, IsUtf8, length, ◌≡◌, list_any, chars_rest, is_break}
use Rattle.yaml_scalar.proofs.analysis.holds_break.Given as goal

abbrev pub invariant-loop-c : goal.invariant-loop-c
invariant-loop-c l =
    record {
      is_text : IsUtf8 (chars_rest l.chars);
      same : list_any is_break (chars l.fn.text) ≡ list_any is_break (chars (chars_rest l.chars));
    }

abbrev pub decreases-loop-c : goal.decreases-loop-c
decreases-loop-c l = length (chars_rest l.chars)
