use Rattle.std.proofs.Common.{length, ◌≡◌}
use Rattle.yaml_value.specs.OpenLevels.{seen_levels}
use Rattle.yaml_json_value.specs.Walked.{WalkedTo}
use Rattle.yaml_json_value.proofs.walk.read_value.Given as goal

abbrev pub invariant-each_token : goal.invariant-each_token
invariant-each_token g l =
    WalkedTo l.fn.reader.ahead l.reader.ahead (seen_levels l.levels.items) × (l.reader.text ≡ l.fn.reader.text)

abbrev pub decreases-each_token : goal.decreases-each_token
decreases-each_token g l = length l.reader.ahead
