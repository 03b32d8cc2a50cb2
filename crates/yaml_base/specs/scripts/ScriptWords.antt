-- The words of a script's lines: characters, texts between quotation marks, fields, words and numbers (the notation of docs/SCRIPTS.md).
use Rattle.std.specs.Prelude.{ℕ, ℤ, pos, neg_ℤ, Bool, true, false, Option, None, Some, List, [], ◌∷◌, ◌++◌, ◌==◌, ◌||◌, ◌&&◌, ◌+◌, nat_le, length, codes}
use Rattle.std.specs.Prelude.{option_map, if◌then◌else◌}
use Rattle.std.specs.List.{list_all, onto_first}
use Rattle.std.specs.Char.{is_digit}
use Rattle.std.specs.Str.{all_scalars}
use Rattle.std.specs.Str.Parse.{digits_value}
use Rattle.yaml_base.specs.Characters.{Text, is_between, line_feed, space, backslash}
use Rattle.yaml_base.specs.Settings.{largest_i32, Encoding, utf8, utf16_little, utf16_big, LineBreak, carriage_return_break, line_feed_break, both_break}
use Rattle.yaml_base.specs.Event.{ScalarStyle, any_style, plain, single_quoted, double_quoted, literal, folded, CollectionStyle, any_layout, block, flow}

-- ---- the characters of the notation

-- the sign at both ends of a text
abbrev pub quotation_mark : ℕ
quotation_mark = 0x22

-- the sign that begins a comment
abbrev pub number_sign : ℕ
number_sign = 0x23

-- ---- texts between quotation marks

-- the place of a text's next character: after a whole character, a backslash, `\u`, or `\u{` and these characters
pub data Within : Type 0 where
  at_character : Within
  at_escape : Within
  at_brace : Within
  at_digits : Text → Within

-- the step of a character: it goes on with an escape, completes a character of the value, ends the text, or is wrong there
pub data QuotedStep : Type 0 where
  goes_on : Within → QuotedStep
  stands_for : ℕ → QuotedStep
  ends : QuotedStep
  fails : QuotedStep

-- the step that completes `\u{..}`: one to six hexadecimal digits of a Unicode scalar value
abbrev pub numbered_step : Text → QuotedStep
numbered_step digits =
    let number = digits_value 16 digits in
    if is_between 1 6 (length digits) && list_all (λ digit. is_digit digit 16) digits && all_scalars (number ∷ [])
    then stands_for number else fails

-- the step of a character in a text: `\\`, `\"`, `
-- ` and `\u{..}` mean characters, any other but these two means itself
abbrev pub text_step : Within → ℕ → QuotedStep
text_step at_character c =
    if c == quotation_mark then ends else (if c == backslash then goes_on at_escape else stands_for c)
text_step at_escape c =
    if c == 0x75 then goes_on at_brace
    else (if c == 0x6E then stands_for line_feed
    else (if c == backslash || c == quotation_mark then stands_for c else fails))
text_step at_brace c = if c == 0x7B then goes_on (at_digits []) else fails
text_step (at_digits digits) c = if c == 0x7D then numbered_step digits else goes_on (at_digits (digits ++ c ∷ []))

-- the value of the characters after an opening mark, if the last of them is the closing mark
abbrev pub text_from : Within → Text → Option Text
text_from within [] = None
text_from within (c ∷ rest) =
    elim (text_step within c) as (λ _. Option Text) [
      | goes_on next ↦ text_from next rest
      | stands_for character ↦ option_map (λ value. character ∷ value) (text_from at_character rest)
      | ends ↦ if length rest == 0 then Some [] else None
      | fails ↦ None
    ]

-- ---- fields

-- a field is a word as it is, or the value of a text between quotation marks
pub data Field : Type 0 where
  bare : Text → Field
  quoted : Text → Field

-- the place of a character in a line: outside texts, inside one, or after a backslash inside one
pub data FieldState : Type 0 where
  outside : FieldState
  inside : FieldState
  escaped : FieldState

-- the place of the character after this one
abbrev pub state_after : FieldState → ℕ → FieldState
state_after outside c = if c == quotation_mark then inside else outside
state_after inside c = if c == quotation_mark then outside else (if c == backslash then escaped else inside)
state_after escaped c = inside

-- true of a space outside texts, which separates two fields
abbrev pub separates : FieldState → ℕ → Bool
separates outside c = c == space
separates inside c = false
separates escaped c = false

-- a character that separates ends a piece; any other is the first of the piece after it
abbrev pub cut_before : Bool → ℕ → List Text → List Text
cut_before true c pieces = [] ∷ pieces
cut_before false c pieces = onto_first c pieces

-- a line cut at each separator
abbrev pub pieces_from : FieldState → Text → List Text
pieces_from standing [] = [] ∷ []
pieces_from standing (c ∷ rest) = cut_before (separates standing c) c (pieces_from (state_after standing c) rest)

-- a piece as a field: no field is empty; one that begins with a quotation mark is a text, any other a word
abbrev pub field_read : Text → Option Field
field_read [] = None
field_read (c ∷ rest) =
    if c == quotation_mark then option_map quoted (text_from at_character rest) else Some (bare (c ∷ rest))

-- the first field before the others, if all have a reading
abbrev pub field_and : Option Field → Option (List Field) → Option (List Field)
field_and (Some field) (Some fields) = Some (field ∷ fields)
field_and _ _ = None

-- each piece read as a field
abbrev pub read_fields : List Text → Option (List Field)
read_fields [] = Some []
read_fields (piece ∷ pieces) = field_and (field_read piece) (read_fields pieces)

-- the fields of a line: exactly one space comes between two, and none at either end
abbrev pub fields_read : Text → Option (List Field)
fields_read line = read_fields (pieces_from outside line)

-- ---- words and numbers

-- the words for flags that are off or on
abbrev pub flags : List (Text × Bool)
flags = (codes "0", false) ∷ (codes "1", true) ∷ []

-- the words for settings that are off or on
abbrev pub switches : List (Text × Bool)
switches = (codes "off", false) ∷ (codes "on", true) ∷ []

-- the words for sequences in a mapping, and whether they are indented
abbrev pub indentations : List (Text × Bool)
indentations = (codes "undented", false) ∷ (codes "indented", true) ∷ []

-- the words for tabs, and for spaces at the ends of lines, if literal is asked for: whether the text is literal
abbrev pub blanks : List (Text × Bool)
blanks = (codes "quoted", false) ∷ (codes "literal", true) ∷ []

-- the names of encodings, line breaks and styles; `any` leaves the choice to the emitter
abbrev pub encodings : List (Text × Option Encoding)
encodings = (codes "any", None) ∷ (codes "utf8", Some utf8) ∷ (codes "utf16le", Some utf16_little) ∷ (codes "utf16be", Some utf16_big) ∷ []

-- the words for line breaks
abbrev pub line_breaks : List (Text × Option LineBreak)
line_breaks = (codes "any", None) ∷ (codes "cr", Some carriage_return_break) ∷ (codes "ln", Some line_feed_break) ∷ (codes "crln", Some both_break) ∷ []

-- the words for styles of scalars
abbrev pub scalar_styles : List (Text × ScalarStyle)
scalar_styles = (codes "any", any_style) ∷ (codes "plain", plain) ∷ (codes "single", single_quoted) ∷ (codes "double", double_quoted) ∷
    (codes "literal", literal) ∷ (codes "folded", folded) ∷ []

-- the words for styles of collections
abbrev pub collection_styles : List (Text × CollectionStyle)
collection_styles = (codes "any", any_layout) ∷ (codes "block", block) ∷ (codes "flow", flow) ∷ []

-- a number that is at most this: decimal digits, one or more
abbrev pub number_up_to : ℕ → Text → Option ℕ
number_up_to most word =
    let number = digits_value 10 word in
    if nat_le 1 (length word) && list_all (λ digit. is_digit digit 10) word && nat_le number most then Some number else None

-- a number of 32 bits with a sign: `-` precedes a negative one
abbrev pub signed_number : Text → Option ℤ
signed_number [] = None
signed_number (c ∷ rest) =
    if c == 0x2D then option_map (λ number. neg_ℤ (pos number)) (number_up_to (largest_i32 + 1) rest)
    else option_map pos (number_up_to largest_i32 (c ∷ rest))
