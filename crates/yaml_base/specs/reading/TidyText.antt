-- Tidy texts: besides the rules of its style's reader, every text of a scalar keeps these, so that it stays at its place and means the
-- same to all readers. A strict reader of streams demands them.
-- Source: this project, stricter than YAML 1.1.
use Rattle.std.specs.Prelude.{ℕ, zero, suc, Bool, true, false, Option, [], ◌∷◌, ◌==◌, ◌||◌, ◌&&◌, not, unwrap_or}
use Rattle.std.specs.List.{list_all}
use Rattle.yaml_base.specs.Characters.{Text, space, tab, is_blank, is_printable}
use Rattle.yaml_base.specs.LineBreaks.{is_read_break}
use Rattle.yaml_base.specs.Event.{ScalarStyle, any_style, plain, single_quoted, double_quoted, literal, folded}
use Rattle.yaml_base.specs.reading.ReadPlain.{is_read_white}

-- true if a text is empty, or begins with a break
abbrev pub ends_line : Bool → Text → Bool
ends_line breaks12 [] = true
ends_line breaks12 (c ∷ rest) = is_read_break breaks12 c

-- true if a text begins with that many spaces (YAML 1.1, section 6.1 Indentation Spaces, s-indent(n))
abbrev pub begins_with_spaces : ℕ → Text → Bool
begins_with_spaces zero text = true
begins_with_spaces (suc count) [] = false
begins_with_spaces (suc count) (c ∷ rest) = c == space && begins_with_spaces count rest

-- true if a text is blanks alone up to the end of its line (YAML 1.1, section 6.4 Ignored Line Prefix, l-empty(n,s))
abbrev pub begins_with_blank_line : Bool → Text → Bool
begins_with_blank_line breaks12 [] = true
begins_with_blank_line breaks12 (c ∷ rest) = is_read_break breaks12 c || (is_blank c && begins_with_blank_line breaks12 rest)

-- true if the line that a text begins with is empty, or begins with that many spaces and isn't of blanks alone
abbrev pub begins_with_deep_line : Bool → ℕ → Text → Bool
begins_with_deep_line breaks12 count text =
    ends_line breaks12 text || (begins_with_spaces count text && not (begins_with_blank_line breaks12 text))

-- true if each line after the first is empty, or begins with that many spaces and isn't of blanks alone
abbrev pub has_deep_lines : Bool → ℕ → Text → Bool
has_deep_lines breaks12 count [] = true
has_deep_lines breaks12 count (c ∷ rest) =
    (not (is_read_break breaks12 c) || begins_with_deep_line breaks12 count rest) && has_deep_lines breaks12 count rest

-- true if a text begins with a break
abbrev pub begins_with_break : Bool → Text → Bool
begins_with_break breaks12 [] = false
begins_with_break breaks12 (c ∷ rest) = is_read_break breaks12 c

-- true if no space precedes a break
abbrev pub has_no_space_before_break : Bool → Text → Bool
has_no_space_before_break breaks12 [] = true
has_no_space_before_break breaks12 (c ∷ rest) =
    not (c == space && begins_with_break breaks12 rest) && has_no_space_before_break breaks12 rest

-- true if a text ends with a blank or a break
abbrev pub ends_white : Bool → Text → Bool
ends_white breaks12 [] = false
ends_white breaks12 (c ∷ []) = is_read_white breaks12 c
ends_white breaks12 (c ∷ d ∷ rest) = ends_white breaks12 (d ∷ rest)

-- true if a text is empty, or has no blank or break at its edges
abbrev pub has_clean_edges : Bool → Text → Bool
has_clean_edges breaks12 [] = true
has_clean_edges breaks12 (c ∷ rest) = not (is_read_white breaks12 c) && not (ends_white breaks12 (c ∷ rest))

-- true if a text meets its style's further rule: no space before a break except in a block style, no white edges in plain
abbrev pub is_tidy_style : ScalarStyle → Bool → Text → Bool
is_tidy_style plain breaks12 text = has_no_space_before_break breaks12 text && has_clean_edges breaks12 text
is_tidy_style single_quoted breaks12 text = has_no_space_before_break breaks12 text
is_tidy_style double_quoted breaks12 text = has_no_space_before_break breaks12 text
is_tidy_style literal breaks12 text = true
is_tidy_style folded breaks12 text = true
is_tidy_style any_style breaks12 text = false

-- true of a character of a style's text: printable characters, and in literal text tabs
abbrev pub is_tidy_character : ScalarStyle → ℕ → Bool
is_tidy_character literal c = is_printable c || c == tab
is_tidy_character _ c = is_printable c

-- true if the text of a scalar is tidy inside a block whose entries are at a column (none: the root): all its characters are those of its
-- style, its lines after the first are deeper than the column and at least one space deep, and its style's further rule holds
abbrev pub is_tidy : ScalarStyle → Bool → Option ℕ → Text → Bool
is_tidy style breaks12 column text =
    list_all (is_tidy_character style) text && has_deep_lines breaks12 (suc (unwrap_or column 0)) text && is_tidy_style style breaks12 text
