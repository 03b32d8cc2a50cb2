-- Characters that are repeated, and their text.
use Rattle.std.specs.Prelude.{◌≡◌, ◌≤◌, ◌+◌, ℕ, Bool, true, List, [], ◌++◌, length, replicate, take}
use Rattle.yaml_base.specs.Characters.{Text, line_feed}
use Rattle.yaml_scalar.specs.declared.repeats.Repeats.{Repeats}
use Rattle.yaml_scalar.specs.declared.repeats.Repeats.TheVariants.{Nothing, Quotes, LineFeeds}

-- a text begins with a byte a number of times
pub record BeginsWithCopies (byte count : ℕ) (text : List ℕ) : Type 0 where
  pub within : count ≤ length text
  pub copies : take count text ≡ replicate count byte

-- the number of bytes of the value
abbrev pub repeats_length : Repeats → ℕ
repeats_length Nothing = 0
repeats_length (Quotes count) = count
repeats_length (LineFeeds count) = count

-- the text that is written: each `'` twice, LF as it is
abbrev pub repeated_text : Repeats → Text
repeated_text Nothing = []
repeated_text (Quotes count) = replicate count 39 ++ replicate count 39
repeated_text (LineFeeds count) = replicate count line_feed

-- a text begins with the repeats of the character before it; one more LF follows those of LF
abbrev pub AreRepeats : (quoted : Bool) (c : ℕ) → Repeats → List ℕ → Type 0
AreRepeats quoted c Nothing text = Unit
AreRepeats quoted c (Quotes count) text = (quoted ≡ true) × (c ≡ 39) × BeginsWithCopies 39 count text
AreRepeats quoted c (LineFeeds count) text = (c ≡ line_feed) × BeginsWithCopies line_feed (count + 1) text
