use Rattle.yaml_scalar.proofs.Common.{◌≤◌, length, AreBatched}
use Rattle.std.specs.Str.{IsUtf8, chars}
use Rattle.yaml_scalar.proofs.batched.fill_batch.Given as goal

abbrev pub invariant-loop-c : goal.invariant-loop-c
invariant-loop-c l =
    record {
      is_text : IsUtf8 l.rest;
      batched : AreBatched l.fn.unicode l.fn.before (chars l.fn.text) l.bytes.items l.last (chars l.rest);
      shorter : length l.rest ≤ length l.fn.text;
    }

abbrev pub decreases-loop-c : goal.decreases-loop-c
decreases-loop-c l = length l.rest
