-- A text by lines and columns: which lines belong to an entry above them, and a block's lines cut into its entries. The part of a line
-- that a collection has read becomes spaces, so that each entry is again a text of its own, with the columns it had.
-- Source, unless a definition names its own: helpers of this project's reader for s-indent(n) (YAML 1.1, section 6.1 Indentation Spaces).
use Rattle.std.specs.Prelude.{ℕ, zero, suc, Bool, true, false, Option, None, Some, List, [], ◌∷◌, ◌++◌, ◌==◌, ◌||◌, ◌&&◌, not, replicate, option_map, unwrap_or}
use Rattle.std.specs.Prelude.{if◌then◌else◌}
use Rattle.yaml_base.specs.Characters.{Text, space}
use Rattle.yaml_base.specs.LineBreaks.{is_read_break}

-- a line and the break that ends it; the last line of a text may have none (YAML 1.1, section 5.4 Line Break Characters, b-normalized)
pub record Line : Type 0 where
  pub text : Text
  pub ending : Text

-- a character before some lines; it begins the first of them
abbrev pub prepend_to_first_line : ℕ → List Line → List Line
prepend_to_first_line c [] = record { text = c ∷ []; ending = [] } ∷ []
prepend_to_first_line c (line ∷ rest) = record { text = c ∷ line.text; ending = line.ending } ∷ rest

-- a break or another character before some lines
abbrev pub prepend_character : (is_break : Bool) → ℕ → List Line → List Line
prepend_character true c rest = record { text = []; ending = c ∷ [] } ∷ rest
prepend_character false c rest = prepend_to_first_line c rest

-- the lines of a text, whose line breaks are read (YAML 1.1, section 5.4 Line Break Characters, b-normalized)
abbrev pub lines_of : Bool → Text → List Line
lines_of breaks12 [] = []
lines_of breaks12 (c ∷ rest) = prepend_character (is_read_break breaks12 c) c (lines_of breaks12 rest)

-- the text of some lines
abbrev pub text_of_lines : List Line → Text
text_of_lines [] = []
text_of_lines (line ∷ rest) = line.text ++ (line.ending ++ text_of_lines rest)

-- true of spaces alone, or nothing (YAML 1.1, section 6.1 Indentation Spaces, s-indent(n))
abbrev pub is_spaces : Text → Bool
is_spaces [] = true
is_spaces (c ∷ rest) = c == space && is_spaces rest

-- true if a text begins with `#`, as a comment does (YAML 1.1, section 5.3 Indicator Characters, c-comment)
abbrev pub begins_comment : Text → Bool
begins_comment [] = false
begins_comment (c ∷ rest) = c == 0x23

-- true of a comment line: a `#` after spaces alone (YAML 1.1, section 6.2 Comments, c-nb-comment-text, l-comment)
abbrev pub is_comment : Text → Bool
is_comment [] = false
is_comment (c ∷ rest) = c == 0x23 || (c == space && is_comment rest)

-- true of a line that is skipped before a node: it is blank or a comment
abbrev pub is_skipped : Text → Bool
is_skipped text = is_spaces text || is_comment text

-- the lines after blank lines and comment lines (YAML 1.1, sections 6.2 Comments and 6.4 Ignored Line Prefix, l-comment, l-empty(n,s))
abbrev pub without_skipped_lines : List Line → List Line
without_skipped_lines [] = []
without_skipped_lines (line ∷ rest) = if is_skipped line.text then without_skipped_lines rest else line ∷ rest

-- true if the first of some lines is blank or a comment (YAML 1.1, sections 6.2 Comments and 6.4 Ignored Line Prefix, l-comment, l-empty(n,s))
abbrev pub first_line_is_skipped : List Line → Bool
first_line_is_skipped [] = false
first_line_is_skipped (line ∷ rest) = is_skipped line.text

-- true if all lines are blank (YAML 1.1, section 6.4 Ignored Line Prefix, l-empty(n,s))
abbrev pub all_blank : List Line → Bool
all_blank [] = true
all_blank (line ∷ rest) = is_spaces line.text && all_blank rest

-- true if an indicator precedes a space or the end of its line (this project, stricter than YAML 1.1, section 6.3 Separation Spaces,
-- s-separate(n,c))
abbrev pub ends_indicator : Text → Bool
ends_indicator [] = true
ends_indicator (c ∷ rest) = c == space

-- true if a line begins with this indicator
abbrev pub begins_with_indicator : ℕ → Text → Bool
begins_with_indicator symbol [] = false
begins_with_indicator symbol (c ∷ rest) = c == symbol && ends_indicator rest

-- true if a line belongs to the entry above it at a column: it is blank or deeper; a `-` at the column of a mapping belongs too (YAML 1.1,
-- section 6.1 Indentation Spaces, s-indent(n))
abbrev pub belongs_to_entry : (in_sequence : Bool) → ℕ → Text → Bool
belongs_to_entry in_sequence column [] = true
belongs_to_entry in_sequence zero (c ∷ rest) = c == space || (not in_sequence && begins_with_indicator 0x2D (c ∷ rest))
belongs_to_entry in_sequence (suc column) (c ∷ rest) = c == space && belongs_to_entry in_sequence column rest

-- the text at a column, after spaces alone (YAML 1.1, section 6.1 Indentation Spaces, s-indent(n))
abbrev pub past_column : ℕ → Text → Option Text
past_column zero text = Some text
past_column (suc column) [] = None
past_column (suc column) (c ∷ rest) = if c == space then past_column column rest else None

-- true if a line has a comment at a column, after spaces alone (YAML 1.1, section 6.2 Comments, l-comment)
abbrev pub is_comment_at : ℕ → Text → Bool
is_comment_at column text = unwrap_or (option_map begins_comment (past_column column text)) false

-- true if the first of some lines that is neither blank nor a comment is an item at a column
abbrev pub item_follows : ℕ → List Line → Bool
item_follows column [] = false
item_follows column (line ∷ rest) =
    if is_skipped line.text then item_follows column rest
    else unwrap_or (option_map (begins_with_indicator 0x2D) (past_column column line.text)) false

-- true if a comment line belongs to the entry above it, whose sequence goes on after it at the column of its mapping
abbrev pub goes_on_after_comment : (in_sequence : Bool) → ℕ → Text → List Line → Bool
goes_on_after_comment in_sequence column text rest = not in_sequence && is_comment_at column text && item_follows column rest

-- the entries of a collection, each with the lines that belong to it, and the lines before them
pub record Entries : Type 0 where
  pub before : List Line
  pub entries : List (List Line)

-- a line before some entries: it belongs to the entry above it, or begins one
abbrev pub prepend_line : (inside : Bool) → Line → Entries → Entries
prepend_line true line after = record { before = line ∷ after.before; entries = after.entries }
prepend_line false line after = record { before = []; entries = (line ∷ after.before) ∷ after.entries }

-- the lines of a collection at a column, cut into its entries; a comment line there is an entry of its own, or it belongs to the entry above
-- (YAML 1.1, sections 6.2 Comments, 10.1.2 Block Sequences and 10.2.2 Block Mappings, l-comment, c-l-block-sequence(n,c), c-l-block-mapping(n))
abbrev pub entries_at : (in_sequence : Bool) → ℕ → List Line → Entries
entries_at in_sequence column [] = record { before = []; entries = [] }
entries_at in_sequence column (line ∷ rest) =
    prepend_line (belongs_to_entry in_sequence column line.text || goes_on_after_comment in_sequence column line.text rest) line
    (entries_at in_sequence column rest)

-- true if each line is blank or deeper than the column; at the root any line is
abbrev pub all_deeper : Option ℕ → List Line → Bool
all_deeper None lines = true
all_deeper (Some column) [] = true
all_deeper (Some column) (line ∷ rest) = belongs_to_entry true column line.text && all_deeper (Some column) rest

-- a line's text after its indentation, and the column of that text
pub record Indented : Type 0 where
  pub column : ℕ
  pub text : Text

-- a space before such a text moves it; any other character is at column 0
abbrev pub indented_step : (is_space : Bool) → Text → Indented → Indented
indented_step true text after = record { column = suc after.column; text = after.text }
indented_step false text after = record { column = 0; text = text }

-- the column of a line's first character that is no space, and the line from there on (YAML 1.1, section 6.1 Indentation Spaces,
-- s-indent(n))
abbrev pub past_indentation : Text → Indented
past_indentation [] = record { column = 0; text = [] }
past_indentation (c ∷ rest) = indented_step (c == space) (c ∷ rest) (past_indentation rest)

-- some spaces (YAML 1.1, section 6.1 Indentation Spaces, s-indent(n))
abbrev pub spaces : ℕ → Text
spaces count = replicate count space

-- a line whose text before a column was read: spaces replace that text
abbrev pub blanked : ℕ → Text → Text → Line
blanked column text ending = record { text = spaces column ++ text; ending = ending }
