-- Texts that are written plain: both schemas read them as texts, and readers that follow neither have no reason to do otherwise.
use Rattle.std.specs.Prelude.{◌≡◌, ℕ, Bool, true, false, List, ◌∷◌, ◌==◌, ◌||◌, ◌&&◌, not, length, codes, map}
use Rattle.std.specs.Char.{to_ascii_lowercase}
use Rattle.std.specs.List.{list_all, list_any, slice_split, take_while}
use Rattle.yaml_base.specs.Characters.{Text, is_among, is_ascii, is_blank, is_space}
use Rattle.yaml_base.specs.Words.{is_word}
use Rattle.yaml_base.specs.values.Resolved.{meant_text, is_point, is_exponent_letter, is_plus_or_minus, is_decimal, first_meets}
use Rattle.yaml_base.specs.values.SchemaCore.{resolved_by_core}
use Rattle.yaml_base.specs.values.SchemaOf11.{is_underscore, is_colon, past, resolved_by_11}

-- ---- words

-- the words of the schemas, and words for infinity and for no number that readers know, in lower case
abbrev pub reserved_words : List Text
reserved_words =
    slice_split is_space
    (codes "~ null true false y n yes no on off << = .inf .nan inf nan infinity +.inf +.nan +inf +nan +infinity -.inf -.nan -inf -nan -infinity")

-- the characters before the first past U+007F, in lower case
abbrev pub ascii_prefix : Text → Text
ascii_prefix text = map to_ascii_lowercase (take_while is_ascii text)

-- true of the empty text, and of a word in any case, alone or before a character past U+007F
abbrev pub is_reserved : Text → Bool
is_reserved text = length text == 0 || list_any (is_word (ascii_prefix text)) reserved_words

-- ---- symbols

-- true if a text begins as a symbol of Ruby
abbrev pub is_symbol : Text → Bool
is_symbol text = first_meets is_colon text

-- ---- numbers

-- true of a character that may precede a number
abbrev pub precedes_number : ℕ → Bool
precedes_number c = is_plus_or_minus c || is_underscore c

-- true of `_`, and of the letter of a base
abbrev pub names_base : ℕ → Bool
names_base c = is_among (codes "_xXoObB") c

-- true if a text begins with `0` and a character that names a base
abbrev pub begins_based : Text → Bool
begins_based (zero_digit ∷ c ∷ rest) = zero_digit == 0x30 && names_base c
begins_based _ = false

-- true if a text begins as a number in a base, whose digits may be any letters
abbrev pub is_based : Text → Bool
is_based text = begins_based (past precedes_number text)

-- true of a character that begins a number
abbrev pub begins_number : ℕ → Bool
begins_number c = is_decimal c || is_point c || precedes_number c || is_exponent_letter c

-- true of a letter of numbers and timestamps
abbrev pub is_number_letter : ℕ → Bool
is_number_letter c = is_among (codes "eEtTzZxXoObB") c

-- true of a character of numbers or timestamps
abbrev pub in_number : ℕ → Bool
in_number c = is_decimal c || is_number_letter c || is_blank c || is_among (codes "+-._:,") c

-- true if a text begins as a number, has no other characters than numbers and timestamps, and a digit if it has a letter
abbrev pub is_numeric : Text → Bool
is_numeric text =
    first_meets begins_number text && list_all in_number text && (list_any is_decimal text || not (list_any is_number_letter text))

-- ---- texts

-- true if a reader may take the text for another value
abbrev pub is_doubtful : Text → Bool
is_doubtful text = is_reserved text || is_symbol text || is_based text || is_numeric text

-- true of any other text
abbrev pub is_surely_text : Text → Bool
is_surely_text text = not (is_doubtful text)

-- a text of which this is true means a text by both schemas
abbrev pub SurelyTextIsText : Type 0
SurelyTextIsText = (text : Text) → is_surely_text text ≡ true → (resolved_by_11 text ≡ meant_text) × (resolved_by_core text ≡ meant_text)
