-- Headings: lines of comments before a stream, and how a stream after them is read.
use Rattle.std.specs.Prelude.{◌≡◌, ℕ, Bool, List, [], ◌∷◌, ◌++◌, ◌==◌, ◌||◌, ◌&&◌, not, codes, encode_utf8, encode_utf8_all}
use Rattle.std.specs.Prelude.{IsUtf8, if◌then◌else◌}
use Rattle.yaml_base.specs.Characters.{Text, is_break, is_printable, line_feed, space}
use Rattle.yaml_base.specs.streams.StreamReader.{stream_trees, text_trees}
use Rattle.yaml_writer.specs.declared.headings.LineSpot.{LineSpot}
use Rattle.yaml_writer.specs.declared.headings.LineSpot.TheVariants.{Start, Within}

-- ---- written

-- LF ends a line of a comment. A character that a line can't hold becomes a space.
abbrev pub in_comment : ℕ → ℕ
in_comment c = if c == line_feed || (is_printable c && not (is_break c)) then c else space

abbrev pub spot_after : ℕ → LineSpot
spot_after c = if c == line_feed then Start else Within

-- The text before a character; a line without characters is `#` alone.
abbrev pub comment_start : LineSpot → ℕ → Text
comment_start Start c = if c == line_feed then codes "#" else codes "# "
comment_start Within c = []

abbrev pub comment_end : LineSpot → Text
comment_end Start = []
comment_end Within = line_feed ∷ []

-- a text from its start, or from within a line, as lines of comments
abbrev pub commented : LineSpot → Text → Text
commented spot [] = comment_end spot
commented spot (c ∷ rest) = comment_start spot c ++ in_comment c ∷ commented (spot_after c) rest

abbrev pub comment_lines : Text → Text
comment_lines text = commented Start text

-- A character and the text before it, in UTF-8.
abbrev pub commented_bytes : LineSpot → ℕ → List ℕ
commented_bytes spot c = comment_start spot c ++ encode_utf8 (in_comment c)

-- ---- read

-- A stream after lines of comments is read as the stream alone, by its characters and by its bytes in UTF-8.
pub record HeadingsArePassedOver : Type 0 where
  pub passed : (breaks12 : Bool) (heading text : Text) → text_trees breaks12 (comment_lines heading ++ text) ≡ text_trees breaks12 text
  pub bytes :
      (breaks12 : Bool) (heading : Text) (bytes : List ℕ) → IsUtf8 (encode_utf8_all (comment_lines heading)) → IsUtf8 bytes
      → stream_trees breaks12 (encode_utf8_all (comment_lines heading) ++ bytes) ≡ stream_trees breaks12 bytes
