use Rattle.yaml_read.proofs.{Common.◌≤◌, Common.length, Common.Utf8, Common.shadow, TagPrefixes.WordSoFar}
use Rattle.yaml_read.proofs.tags.read_escaped.Given as goal

abbrev pub invariant-bytes : goal.invariant-bytes
invariant-bytes g l = shadow (Utf8 l.rest) × (length l.rest ≤ length l.fn.text) × WordSoFar l.fn.prefix l.fn.text l.bytes.items l.rest

abbrev pub decreases-bytes : goal.decreases-bytes
decreases-bytes g l = length l.rest
