-- Tags as they are written, and how a node goes on after its tag.
use Rattle.std.specs.Prelude.{ℕ, ◌==◌, ◌||◌, ◌&&◌, ◌<◌, ◌≡◌, ◌≢◌, Bool, true, false, not, Option, None, Some, List, [], ◌∷◌, ◌++◌, if◌then◌else◌, codes}
use Rattle.std.specs.Prelude.{is_some}
use Rattle.std.specs.Borrow.{Bor}
use Rattle.std.specs.Str.{all_scalars, encode_utf8_all}
use Rattle.yaml_base.specs.Characters.{Text}
use Rattle.yaml_base.specs.Event.{any_style, any_layout}
use Rattle.yaml_base.specs.Percent.{byte_escaped, is_tag_character, percent_sign}
use Rattle.yaml_base.specs.Tags.{behind}
use Rattle.yaml_base.specs.graphs.Meetings.{Held, mapping_held, scalar_held, sequence_held}
use Rattle.yaml_base.specs.graphs.DumpedText.{in_quotes}
use Rattle.yaml_read.specs.Words.{past_word}

-- a byte of a tag's UTF-8: as itself if a tag may have it so, else as its percent form
abbrev pub byte_in_tag : ℕ → Text
byte_in_tag byte = if is_tag_character byte then byte ∷ [] else byte_escaped byte

-- a written tag can't go on with what follows
abbrev pub ends_tag : Text → Bool
ends_tag [] = true
ends_tag (c ∷ rest) = not (is_tag_character c || c == percent_sign)

-- the beginning of each tag that is written after `!!`
abbrev pub type_prefix : Text
type_prefix = codes "tag:yaml.org,2002:"

-- a tag has a character, and goes on from the prefix of no handle
abbrev pub stays_verbatim : Text → Bool
stays_verbatim [] = false
stays_verbatim (c ∷ tag) = not (is_some (behind (codes "!") (c ∷ tag))) && not (is_some (behind type_prefix (c ∷ tag)))

-- a tag goes on from the prefix of a handle, or without one is written as a whole
abbrev pub is_spelled_by : (prefix tag : Text) → Bool
is_spelled_by [] tag = stays_verbatim tag
is_spelled_by (p ∷ prefix) tag = is_some (behind (p ∷ prefix) tag)

-- a handle tells its prefix, and what follows the tag; `!<` has no prefix
pub data OpensTag (text : List ℕ) : (prefix end inside : List ℕ) → Type 0 where
  opens_whole : (inside : List ℕ) → text ≡ codes "!<" ++ inside → OpensTag text [] (codes "> ") inside
  opens_type : (inside : List ℕ) → past_word (codes "!<") text ≡ None → text ≡ codes "!!" ++ inside → OpensTag text type_prefix (codes " ") inside
  opens_document : (inside : List ℕ) → past_word (codes "!<") text ≡ None → past_word (codes "!!") text ≡ None → text ≡ codes "!" ++ inside
      → OpensTag text (codes "!") (codes " ") inside

-- ---- the code's answers

-- a byte that is written as itself or as its form, and what follows it; or none is written there
abbrev pub ByteRead : (text : List ℕ) → Option (ℕ × Bor (List ℕ)) → Type 0
ByteRead text (Some found) = (text ≡ byte_in_tag found.0 ++ found.1.now) × (found.0 < 256)
ByteRead text None = (byte : ℕ) (rest : Text) → byte < 256 → text ≢ encode_utf8_all (byte_in_tag byte ++ rest)

-- ---- nodes

-- the text after a node's tag: a text between quotes, or the opening bracket of a collection
pub data HasHeldText : Held → Text → Type 0 where
  value_quoted : (value : Text) → all_scalars value ≡ true → HasHeldText (scalar_held value any_style) (in_quotes value)
  sequence_opened : HasHeldText (sequence_held [] any_layout) (codes "[")
  mapping_opened : HasHeldText (mapping_held [] any_layout) (codes "{")
