-- The deepest column in a document.
use Rattle.std.specs.Prelude.{ℕ, ◌≤◌, Option}
use Rattle.yaml_base.specs.Layout.{line_column}

-- a million collections may be open, each at most nine columns further in than the one around it
abbrev pub most_column : ℕ
most_column = 9000000

-- the entries' column is at most the deepest
abbrev pub IsWithinReach : Option ℕ → Type 0
IsWithinReach column = line_column column ≤ most_column
