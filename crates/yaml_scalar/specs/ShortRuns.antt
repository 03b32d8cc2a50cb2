-- Short texts of ASCII that are written as they are.
use Rattle.std.specs.Prelude.{◌≡◌, ◌≤◌, ℕ, Bool, true, false, Option, List, length}
use Rattle.std.specs.List.{list_all}
use Rattle.std.specs.Str.{chars}
use Rattle.yaml_base.specs.Cursor.{Cursor}
use Rattle.yaml_scalar.specs.EscapeBytes.{is_unbroken_ascii}
use Rattle.yaml_scalar.specs.WholeRuns.{HasRoom, stays_in_line}

-- the largest size of a short text in bytes
abbrev pub most_short : ℕ
most_short = 512

-- a short text whose characters are its bytes; none is a break, and all pass a test
pub record IsShortRun (test : ℕ → Bool) (text : List ℕ) : Type 0 where
  pub few : length text ≤ most_short
  pub ascii : chars text ≡ text
  pub plain : list_all is_unbroken_ascii text ≡ true
  pub all : list_all test text ≡ true

-- a short text that is one line at a cursor: none of its characters is doubled, or past the width
pub record IsShortLine (limit : Option ℕ) (quotes : Bool) (cursor : Cursor) (text : List ℕ) : Type 0 where
  pub run : IsShortRun (stays_in_line false quotes) text
  pub room : HasRoom limit cursor.column (length text)
