-- Line breaks: how those of a finished text are written, and how those of any text are read (YAML 1.1, section 5.4).
use Rattle.std.specs.Prelude.{ℕ, Bool, true, false, [], ◌∷◌, ◌++◌, ◌==◌, ◌||◌, ◌&&◌, not, if◌then◌else◌}
use Rattle.yaml_base.specs.Characters.{Text, line_feed, carriage_return, next_line, is_break, line_separator, paragraph_separator, space}
use Rattle.yaml_base.specs.Settings.{LineBreak, carriage_return_break, line_feed_break, both_break}

-- the characters of a line break
abbrev pub break_text : LineBreak → Text
break_text carriage_return_break = carriage_return ∷ []
break_text line_feed_break = line_feed ∷ []
break_text both_break = carriage_return ∷ line_feed ∷ []

-- a text whose every LF is written as the setting says; all else stays as it is
abbrev pub with_breaks_written : LineBreak → Text → Text
with_breaks_written setting [] = []
with_breaks_written setting (c ∷ rest) =
    (if c == line_feed then break_text setting else c ∷ []) ++ with_breaks_written setting rest

-- how a character is read, after a CR or after another character
abbrev pub character_read : Bool → ℕ → Text
character_read after_carriage_return c =
    if c == line_feed && after_carriage_return then []
    else (if c == carriage_return || c == next_line then line_feed ∷ [] else c ∷ [])

-- a text with its line breaks read, after a CR or after another character
abbrev pub line_breaks_read_after : Bool → Text → Text
line_breaks_read_after after_carriage_return [] = []
line_breaks_read_after after_carriage_return (c ∷ rest) =
    character_read after_carriage_return c ++ line_breaks_read_after (c == carriage_return) rest

-- CR LF, CR, LF and U+0085 each read as LF; U+2028 and U+2029 read as themselves
abbrev pub with_line_breaks_read : Text → Text
with_line_breaks_read text = line_breaks_read_after false text

-- true of a break in a text whose line breaks are read; under the rules of YAML 1.2 U+2028 and U+2029 are no breaks
abbrev pub is_read_break : Bool → ℕ → Bool
is_read_break breaks12 c =
    c == line_feed || (not breaks12 && (c == line_separator || c == paragraph_separator))

-- true of a text without CR and U+0085; its LF are all its breaks of the setting
abbrev pub is_rendered_text : Text → Bool
is_rendered_text [] = true
is_rendered_text (c ∷ rest) = not (c == carriage_return || c == next_line) && is_rendered_text rest

-- true if the first line is empty or begins with at least two spaces
abbrev pub begins_indented : Text → Bool
begins_indented [] = true
begins_indented (a ∷ []) = is_break a
begins_indented (a ∷ b ∷ rest) = is_break a || (a == space && b == space)

-- true if each nonempty line after the first begins with at least two spaces; a line ends at any break
abbrev pub is_indented_text : Text → Bool
is_indented_text [] = true
is_indented_text (c ∷ rest) = (not (is_break c) || begins_indented rest) && is_indented_text rest
