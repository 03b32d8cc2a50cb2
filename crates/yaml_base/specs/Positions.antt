-- The position of an offset in a text, and its words in messages.
use Rattle.std.specs.Prelude.{◌≡◌, ◌++◌, ℕ, List, codes}
use Rattle.std.specs.Fmt.{decimal}
use Rattle.yaml_base.specs.declared.places.Position.{Position}
use Rattle.yaml_base.specs.values.LinesAndColumns.{column_of, line_of}

-- True if a position is that of an offset, in bytes, in a text.
pub record IsPositionOf (text : List ℕ) (offset : ℕ) (position : Position) : Type 0 where
  pub line : position.line ≡ line_of text offset
  pub column : position.column ≡ column_of text offset

-- A position in words, with both numbers in decimal.
abbrev pub position_text : Position → List ℕ
position_text position = codes "line " ++ decimal position.line ++ codes ", column " ++ decimal position.column
