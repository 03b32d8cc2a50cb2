use Rattle.toml_ordered.proofs.Common.{ℕ, ◌+◌, List, length, Utf8, shadow, IsFoundHere}
use Rattle.std.proofs.Common.{◌*◌}
use Rattle.toml_ordered.proofs.Around.{Stands}
use Rattle.toml_ordered.proofs.values.value.Given as goal

-- In the open arrays and tables the text was read up to the value that begins here, and this is found of it.
abbrev pub invariant-values : goal.invariant-values
invariant-values l = shadow (Utf8 l.rest) × (inner : ℕ) × (at : List ℕ) × Stands l.open.items l.fn.depth l.fn.s inner at × IsFoundHere inner at l.found l.rest

abbrev pub decreases-values : goal.decreases-values
decreases-values l = 2 * length l.rest + length l.open.items
