-- Runs of characters that are written whole.
use Rattle.std.specs.Prelude.{◌≡◌, ◌≤◌, ◌+◌, ℕ, Bool, true, false, Option, None, Some, List, ◌==◌, ◌||◌, ◌&&◌, not, take}
use Rattle.std.specs.List.{list_all}
use Rattle.std.specs.Str.{IsCharBoundary, chars}
use Rattle.yaml_base.specs.Characters.{is_break, is_space}
use Rattle.yaml_base.specs.Cursor.{Cursor}
use Rattle.yaml_base.specs.scalars.DoubleQuoted.{needs_escape}
use Rattle.yaml_base.specs.Tags.{last_from}

-- true if some column is past the width
abbrev pub has_limit : Option ℕ → Bool
has_limit None = false
has_limit (Some _) = true

-- true for a character that is written as itself between double quotes, and never becomes a fold; `folds`: a space may
abbrev pub stays_where : (unicode folds : Bool) → ℕ → Bool
stays_where unicode folds c = not (needs_escape unicode c) && not (is_space c && folds)

-- the same, if spaces may become folds exactly if there is a width
abbrev pub stays : (unicode : Bool) → (limit : Option ℕ) → ℕ → Bool
stays unicode limit c = stays_where unicode (has_limit limit) c

-- true for a character that is written as itself in a line of any other style; `folds`: a space may become a fold; `quotes`: a
-- `'` is doubled
abbrev pub stays_in_line : (folds quotes : Bool) → ℕ → Bool
stays_in_line folds quotes c = not (is_break c || (is_space c && folds) || (quotes && c == 39))

-- a prefix of a text, by its length in bytes, whose characters all pass a test; and the last character up to
-- its end, from the one before the text on
pub record IsRun (test : ℕ → Bool) (before : ℕ) (text : List ℕ) (length last : ℕ) : Type 0 where
  pub boundary : IsCharBoundary text length
  pub all : list_all test (chars (take length text)) ≡ true
  pub last_is : last ≡ last_from before (chars (take length text))

-- `count` characters may be written from a column on, none of them past the width
abbrev pub HasRoom : Option ℕ → (column count : ℕ) → Type 0
HasRoom None column count = Unit
HasRoom (Some width) column count = column + count ≤ width

-- a run of a line at a cursor: a space ends it, or none of its characters is past the width
pub record IsLineRun (limit : Option ℕ) (quotes : Bool) (cursor : Cursor) (before : ℕ) (text : List ℕ) (size last : ℕ) : Type 0 where
  pub folds : Bool
  pub run : IsRun (stays_in_line folds quotes) before text size last
  pub room : folds ≡ false → HasRoom limit cursor.column size
