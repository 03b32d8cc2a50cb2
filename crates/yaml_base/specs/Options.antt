-- Values that are there if a test holds.
use Rattle.std.specs.Prelude.{Bool, Option, None, Some, if◌then◌else◌}

-- a value if the test holds, else none
abbrev pub some_if : {A : Type 0} → Bool → A → Option A
some_if holds value = if holds then Some value else None
