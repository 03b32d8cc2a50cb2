-- How literal and folded scalars are read, once line breaks are read.
-- Source, unless a definition names its own: helpers of this project's reader for c-l+literal(n), c-l+folded(n) (YAML 1.1, section 9.3 Block Scalar Styles).
use Rattle.std.specs.Prelude.{ℕ, zero, suc, Bool, true, false, Option, None, Some, List, [], ◌∷◌, ◌++◌, ◌==◌, ◌||◌, ◌&&◌, ◌+◌, ◌-◌, not, take, option_map}
use Rattle.std.specs.Prelude.{option_and_then, if◌then◌else◌}
use Rattle.yaml_base.specs.Characters.{Text, is_between, is_space, is_blank, line_feed, space}
use Rattle.yaml_base.specs.LineBreaks.{is_read_break}

-- the content of a line that has any, or the break at a line's end
-- (YAML 1.1, sections 5.4 Line Break Characters and 5.5 Miscellaneous Characters, b-normalized, nb-char)
pub data Element : Type 0 where
  content : Text → Element
  line_end : ℕ → Element

-- a character before elements: it begins their first content, or is a content by itself
abbrev pub prepend_to_elements : ℕ → List Element → List Element
prepend_to_elements c [] = content (c ∷ []) ∷ []
prepend_to_elements c (content text ∷ rest) = content (c ∷ text) ∷ rest
prepend_to_elements c (line_end b ∷ rest) = content (c ∷ []) ∷ line_end b ∷ rest

-- a break or another character, before elements
abbrev pub prepend_element : Bool → ℕ → List Element → List Element
prepend_element breaks12 c elements = if is_read_break breaks12 c then line_end c ∷ elements else prepend_to_elements c elements

-- a text cut at its breaks (YAML 1.1, section 5.4 Line Break Characters, b-normalized)
abbrev pub elements : Bool → Text → List Element
elements breaks12 [] = []
elements breaks12 (c ∷ rest) = prepend_element breaks12 c (elements breaks12 rest)

-- the number of spaces that a text begins with (YAML 1.1, section 6.1 Indentation Spaces, s-indent(n))
abbrev pub leading_spaces : Text → ℕ
leading_spaces [] = 0
leading_spaces (c ∷ rest) = if is_space c then suc (leading_spaces rest) else 0

-- the spaces before the first content (YAML 1.1, section 9.2.2 Block Indentation Indicator, c-indentation-indicator)
abbrev pub detected_indentation : List Element → ℕ
detected_indentation [] = 0
detected_indentation (content text ∷ rest) = leading_spaces text
detected_indentation (line_end b ∷ rest) = detected_indentation rest

-- the indentation: the digit plus the column of the enclosing block's entries (the digit itself at the root), or else that of the first
-- content (YAML 1.1, section 9.2.2 Block Indentation Indicator, c-indentation-indicator)
abbrev pub read_indentation : (digit column : Option ℕ) → List Element → ℕ
read_indentation None column lines = detected_indentation lines
read_indentation (Some digit) None lines = digit
read_indentation (Some digit) (Some column) lines = column + digit

-- a text without that many leading spaces; none if it has fewer (YAML 1.1, section 6.1 Indentation Spaces, s-indent(n))
abbrev pub unindented : ℕ → Text → Option Text
unindented zero text = Some text
unindented (suc n) [] = None
unindented (suc n) (c ∷ rest) = if is_space c then unindented n rest else None

-- a content without that many leading spaces, or a line's end as it is (YAML 1.1, section 6.1 Indentation Spaces, s-indent(n))
abbrev pub element_unindented : ℕ → Element → Option Element
element_unindented n (content text) = option_map content (unindented n text)
element_unindented n (line_end b) = Some (line_end b)

-- all contents without the indentation; none if one has less (YAML 1.1, section 6.1 Indentation Spaces, s-indent(n))
abbrev pub all_unindented : ℕ → List Element → Option (List Element)
all_unindented n [] = Some []
all_unindented n (element ∷ rest) =
    option_and_then (λ first. option_map (λ others. first ∷ others) (all_unindented n rest)) (element_unindented n element)

-- true if there is a content
abbrev pub has_content : List Element → Bool
has_content [] = false
has_content (content text ∷ rest) = true
has_content (line_end b ∷ rest) = has_content rest

-- all elements up to the last content (YAML 1.1, section 9.2.3 Block Chomping Indicator, before b-chomped-last(t))
abbrev pub kept_lines : List Element → List Element
kept_lines [] = []
kept_lines (content text ∷ rest) = content text ∷ kept_lines rest
kept_lines (line_end b ∷ rest) = if has_content rest then line_end b ∷ kept_lines rest else []

-- the breaks after the last content (YAML 1.1, section 9.2.3 Block Chomping Indicator, b-chomped-last(t), l-chomped-empty(n,t))
abbrev pub final_ends : List Element → Text
final_ends [] = []
final_ends (content text ∷ rest) = final_ends rest
final_ends (line_end b ∷ rest) = (if has_content rest then [] else b ∷ []) ++ final_ends rest

-- the text of elements as they are, for literal (YAML 1.1, section 9.3.1 Literal, c-l+literal(n))
abbrev pub joined : List Element → Text
joined [] = []
joined (content text ∷ rest) = text ++ joined rest
joined (line_end b ∷ rest) = b ∷ joined rest

-- true if the text doesn't begin with a blank (YAML 1.1, section 9.3.2 Folded, l-nb-folded-lines(n))
abbrev pub begins_unindented : Text → Bool
begins_unindented [] = true
begins_unindented (c ∷ rest) = not (is_blank c)

-- true if there is a next content, and it doesn't begin with a blank (YAML 1.1, section 9.3.2 Folded, l-nb-folded-lines(n))
abbrev pub next_content_unindented : List Element → Bool
next_content_unindented [] = false
next_content_unindented (content text ∷ rest) = begins_unindented text
next_content_unindented (line_end b ∷ rest) = next_content_unindented rest

-- the reading of a folded LF, by the elements after it: a space before a content, nothing before a break (YAML 1.1, sections 6.5 Line
-- Folding and 9.3.2 Folded, b-l-folded-as-space, b-l-folded-trimmed(n,s))
abbrev pub fold_read : List Element → Text
fold_read [] = []
fold_read (content text ∷ rest) = space ∷ []
fold_read (line_end b ∷ rest) = []

-- the text of elements, folded: a LF at the end of a content is folded if neither that content nor the next one begins with a blank (YAML
-- 1.1, section 9.3.2 Folded, l-nb-folded-lines(n), l-nb-spaced-lines(n))
abbrev pub unfolded : (after_even : Bool) → List Element → Text
unfolded after_even [] = []
unfolded after_even (content text ∷ rest) = text ++ unfolded (begins_unindented text) rest
unfolded after_even (line_end b ∷ rest) =
    (if after_even && b == line_feed && next_content_unindented rest then fold_read rest else b ∷ []) ++ unfolded false rest

-- the treatment of the final breaks (YAML 1.1, section 9.2.3 Block Chomping Indicator, c-chomping-indicator(t))
pub data Chomping : Type 0 where
  strip : Chomping
  clip : Chomping
  keep : Chomping

-- the final breaks that remain: none, all, or the first if a content precedes it (YAML 1.1, section 9.2.3 Block Chomping Indicator,
-- b-chomped-last(t), l-chomped-empty(n,t))
abbrev pub chomped : Chomping → (content_before : Bool) → Text → Text
chomped strip content_before ends = []
chomped clip content_before ends = if content_before then take 1 ends else []
chomped keep content_before ends = ends

-- the reading of lines without their indentation: all up to the last content, joined or folded, and the final breaks that remain (YAML
-- 1.1, section 9.3 Block Scalar Styles, c-l+literal(n), c-l+folded(n))
abbrev pub lines_read : (folded : Bool) → Chomping → List Element → Text
lines_read folded chomping lines =
    (if folded then unfolded false (kept_lines lines) else joined (kept_lines lines))
    ++ chomped chomping (has_content lines) (final_ends lines)

-- the header's digit, 1 to 9, if one comes next (YAML 1.1, section 9.2.2 Block Indentation Indicator, c-indentation-indicator)
abbrev pub digit_first : Text → Option ℕ
digit_first [] = None
digit_first (c ∷ rest) = if is_between 49 57 c then Some (c - 48) else None

-- the text after the digit, or all if there is none (YAML 1.1, section 9.2.2 Block Indentation Indicator, c-indentation-indicator)
abbrev pub after_digit : Text → Text
after_digit [] = []
after_digit (c ∷ rest) = if is_between 49 57 c then rest else c ∷ rest

-- `-` strips, `+` keeps, no indicator clips (YAML 1.1, section 9.2.3 Block Chomping Indicator, c-chomping-indicator(t))
abbrev pub chomping_first : Text → Chomping
chomping_first [] = clip
chomping_first (c ∷ rest) = if c == 45 then strip else (if c == 43 then keep else clip)

-- the text after the chomping indicator, or all if there is none (YAML 1.1, section 9.2.3 Block Chomping Indicator,
-- c-chomping-indicator(t))
abbrev pub after_chomping : Text → Text
after_chomping [] = []
after_chomping (c ∷ rest) = if c == 45 || c == 43 then rest else c ∷ rest

-- the text after a break; none if no break comes first (YAML 1.1, section 9.2 Block Scalar Header, c-b-block-header)
abbrev pub after_break : Bool → Text → Option Text
after_break breaks12 [] = None
after_break breaks12 (c ∷ rest) = if is_read_break breaks12 c then Some rest else None

-- the reading of the lines after a header
abbrev pub read_lines : (folded : Bool) → Chomping → (digit column : Option ℕ) → List Element → Option Text
read_lines folded chomping digit column lines =
    option_map (lines_read folded chomping) (all_unindented (read_indentation digit column lines) lines)

-- a block scalar from its indicator on: `|` or `>`, a digit or none, a chomping indicator or none, a break, lines; the column is that of
-- the enclosing block's entries (none at the root) (YAML 1.1, section 9.3 Block Scalar Styles, c-l+literal(n), c-l+folded(n))
abbrev pub read_block : (breaks12 : Bool) (column : Option ℕ) → Text → Option Text
read_block breaks12 column [] = None
read_block breaks12 column (symbol ∷ rest) =
    if symbol == 124 || symbol == 62
    then option_and_then
    (λ body. read_lines (symbol == 62) (chomping_first (after_digit rest)) (digit_first rest) column (elements breaks12 body))
    (after_break breaks12 (after_chomping (after_digit rest)))
    else None
