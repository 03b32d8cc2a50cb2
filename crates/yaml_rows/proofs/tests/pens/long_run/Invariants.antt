use Rattle.yaml_base.proofs.Common.{false, ◌≡◌, list_any, chars, is_break}
use Rattle.std.specs.String.{string_bytes}
use Rattle.yaml_rows.proofs.tests.pens.long_run.Given as goal

abbrev pub invariant-cycles : goal.invariant-cycles
invariant-cycles g l = list_any is_break (chars (string_bytes l.text)) ≡ false
