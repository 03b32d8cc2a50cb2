-- The line and the column of an offset, in bytes, in a text.
use Rattle.std.specs.Prelude.{ℕ, Bool, List, ◌==◌, ◌+◌, take, count_by}
use Rattle.std.specs.Fmt.{is_char_start}
use Rattle.std.specs.List.{after_last}
use Rattle.yaml_base.specs.Characters.{line_feed}

-- true of the byte that ends a line
abbrev pub is_line_feed : ℕ → Bool
is_line_feed byte = byte == line_feed

-- the line of an offset: one more than the line feeds before it
abbrev pub line_of : (text : List ℕ) → (offset : ℕ) → ℕ
line_of text offset = count_by is_line_feed (take offset text) + 1

-- the column of an offset: one more than the characters that begin before it and after the last line feed before it
abbrev pub column_of : (text : List ℕ) → (offset : ℕ) → ℕ
column_of text offset = count_by is_char_start (after_last is_line_feed (take offset text)) + 1
