use Rattle.yaml_base.proofs.Common.{◌≡◌, ℕ, List, ◌++◌}
use Rattle.std.specs.Io.KnownBytes.{Appends}
use Rattle.yaml_base.proofs.sinks.write_to_sink.Given as goal

-- the bytes that the rest has lost were given to the sink
abbrev pub invariant-writes : goal.invariant-writes
invariant-writes g l = (done : List ℕ) × (done ++ l.rest ≡ l.bytes) × Appends (g.W.Write.contents l.fn.sink) (g.W.Write.contents l.sink) done

abbrev pub decreases-writes : goal.decreases-writes
decreases-writes g l = l.turns
