-- Characters between double quotes whose texts are written at once.
use Rattle.std.specs.Borrow.{Bor}
use Rattle.std.specs.Prelude.{◌≡◌, ℕ, Bool, true, Result, Ok, Err, IfOk, List, [], ◌∷◌, ◌++◌, ◌||◌, ◌&&◌, not}
use Rattle.std.specs.Str.{chars}
use Rattle.std.specs.List.{list_all}
use Rattle.yaml_base.specs.Characters.{Text, is_ascii, is_space}
use Rattle.yaml_base.specs.Cursor.{render_text}
use Rattle.yaml_base.specs.scalars.DoubleQuoted.{character_text, needs_escape}
use Rattle.yaml_base.specs.declared.errors.yaml_error_t.{yaml_error_t}
use Rattle.yaml_pen.specs.Page.{Page}
use Rattle.yaml_pen.specs.Wrote.{Wrote}
use Rattle.yaml_base.specs.Tags.{last_from}

-- the largest size of a batch in bytes
abbrev pub most_bytes : ℕ
most_bytes = 256

-- the size of the longest escape in bytes
abbrev pub longest_escape : ℕ
longest_escape = 10

-- true for a character whose text is of ASCII, and which is no space
abbrev pub is_batched : (unicode : Bool) → ℕ → Bool
is_batched unicode c = not (is_space c) && (is_ascii c || needs_escape unicode c)

-- the texts of characters, one after another
abbrev pub characters_text : (unicode : Bool) → Text → Text
characters_text unicode [] = []
characters_text unicode (c ∷ rest) = character_text unicode c ++ characters_text unicode rest

-- the bytes are the texts of a text's first characters, which all belong to a batch; `last` is the last of them, or else the
-- character before the text; and `rest` is the rest
pub record AreBatched (unicode : Bool) (before : ℕ) (text : Text) (bytes : List ℕ) (last : ℕ) (rest : Text) : Type 0 where
  pub prefix : Text
  pub parts : text ≡ prefix ++ rest
  pub bytes_are : bytes ≡ characters_text unicode prefix
  pub all : list_all (is_batched unicode) prefix ≡ true
  pub last_is : last ≡ last_from before prefix

-- an answer without its contents
abbrev pub without_next : Result (ℕ × Bor (List ℕ)) yaml_error_t → Result (Unit {0}) yaml_error_t
without_next (Ok next) = Ok tt
without_next (Err error) = Err error

-- a text's first characters are written as one batch; Ok holds the last of them and the rest
pub record WroteBatch (unicode : Bool) (before : ℕ) (text : Text) (old new : Page) (answer : Result (ℕ × Bor (List ℕ)) yaml_error_t) : Type 0 where
  pub bytes : List ℕ
  pub last : ℕ
  pub rest : Text
  pub are : AreBatched unicode before text bytes last rest
  pub wrote : Wrote (render_text bytes) old new (without_next answer)
  pub next : IfOk answer (λ given. (given.0 ≡ last) × (chars given.1.now ≡ rest))
