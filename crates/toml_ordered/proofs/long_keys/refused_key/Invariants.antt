use Rattle.toml_ordered.proofs.Common.{◌+◌, ◌≤◌, length, Utf8, shadow}
use Rattle.toml_ordered.proofs.LongKeys.{UpToPart}
use Rattle.toml_ordered.proofs.long_keys.refused_key.Given as goal

abbrev pub invariant-parts : goal.invariant-parts
invariant-parts l = shadow (Utf8 l.rest) × UpToPart l.s l.dots l.rest × (l.dots + length l.rest ≤ length l.s)

abbrev pub decreases-parts : goal.decreases-parts
decreases-parts l = length l.rest
