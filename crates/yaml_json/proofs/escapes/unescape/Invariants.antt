use Rattle.yaml_json.proofs.Common.{◌≡◌, ◌-◌, drop, length, content, prepend, IsCharBoundary, string_bytes}
use Rattle.json.specs.Text.{plain}
use Rattle.yaml_json.proofs.escapes.unescape.Given as goal

abbrev pub invariant-runs : goal.invariant-runs
invariant-runs g l = IsCharBoundary l.text l.at × (content plain (drop l.from l.text) ≡ prepend (string_bytes l.string) (content plain (drop l.at l.text)))

abbrev pub decreases-runs : goal.decreases-runs
decreases-runs g l = length l.text - l.at
