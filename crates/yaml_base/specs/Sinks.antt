-- The bytes that a sink was given.
use Rattle.std.specs.Prelude.{ℕ, Option, List}
use Rattle.std.specs.Io.KnownBytes.{Appends}
use Rattle.yaml_base.specs.Prefix.{IsPrefix}

-- known bytes grow by a prefix of these
abbrev pub AppendsFirst : (old new : Option (List ℕ)) → List ℕ → Type 0
AppendsFirst old new bytes = (first : List ℕ) × IsPrefix first bytes × Appends old new first
