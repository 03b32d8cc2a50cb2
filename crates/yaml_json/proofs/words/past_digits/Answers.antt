use Rattle.yaml_json.proofs.Common.{is_ascii_digit, ◌+◌, drop, length-drop, ap, arith}
use Rattle.yaml_json.proofs.DigitLanes.{run_told}
use Rattle.std.proofs.lemmas.List.Sums.{prefix_len-le-length}
use Rattle.yaml_json.proofs.words.past_digits.Goals as goal

pub returns-then-found-ne0-clause-run : goal.returns-then-found-ne0-clause-run
returns-then-found-ne0-clause-run c =
    ap (λ n. c.args.from + n) (run_told c.args.text.now c.args.from c.no_digits-found.result (omega arith) c.no_digits-found.ensures (omega arith))

pub returns-then-found-ne0-clause-within : goal.returns-then-found-ne0-clause-within
returns-then-found-ne0-clause-within c =
    omega (
      arith,
      run_told c.args.text.now c.args.from c.no_digits-found.result (omega arith) c.no_digits-found.ensures (omega arith),
      prefix_len-le-length is_ascii_digit (drop c.args.from c.args.text.now),
      length-drop c.args.from c.args.text.now,
    )
