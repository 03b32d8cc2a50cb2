use Rattle.yaml_scalar.proofs.Common.{chars, IsUtf8, length, ◌≡◌, chars_rest, barred_in, either}
use Rattle.yaml_scalar.proofs.analysis.barred_before.Given as goal

abbrev pub invariant-loop-c : goal.invariant-loop-c
invariant-loop-c l =
    record {
      is_text : IsUtf8 (chars_rest l.chars);
      so_far : barred_in l.fn.charset (chars l.fn.value)
          ≡ either l.barred (barred_in l.fn.charset (chars (chars_rest l.chars)));
    }

abbrev pub decreases-loop-c : goal.decreases-loop-c
decreases-loop-c l = length (chars_rest l.chars)
