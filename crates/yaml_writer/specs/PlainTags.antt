-- The tags of plain texts, whichever schema reads them: those of null, booleans, integers and floats.
use Rattle.std.specs.Prelude.{ℕ, ◌≡◌, Bool, true, false, Option, None, Some, List, [], ◌∷◌, ◌++◌, ◌==◌, ◌||◌, ◌&&◌, bytes_eq, nat_le, length, is_some, codes}
use Rattle.std.specs.Prelude.{option_map, if◌then◌else◌}
use Rattle.std.specs.List.{slice_split}
use Rattle.std.specs.Option.{option_or}
use Rattle.yaml_base.specs.Characters.{Text}
use Rattle.yaml_base.specs.Event.{plain}
use Rattle.yaml_base.specs.Options.{some_if}
use Rattle.yaml_base.specs.Words.{named}
use Rattle.yaml_base.specs.graphs.Meetings.{string_tag}
use Rattle.yaml_base.specs.scalars.Analysis.{Charset, allowances, is_empty}
use Rattle.yaml_base.specs.scalars.Style.{chosen}
use Rattle.yaml_base.specs.streams.StreamContent.{is_same_text}
use Rattle.yaml_base.specs.values.CanonicalTags.{canonical_tag}
use Rattle.yaml_base.specs.values.JsonNumbers.{JsonExponent, is_whole_part}
use Rattle.yaml_base.specs.values.Resolved.{Resolved, words_of_core, is_point, is_exponent_letter, is_plus_or_minus, first_meets, past_sign, are_digits}
use Rattle.yaml_base.specs.values.SchemaCore.{resolved_by_core}
use Rattle.yaml_base.specs.values.SchemaOf11.{past, resolved_by_11}
use Rattle.yaml_base.specs.values.SurelyText.{is_surely_text}
use Rattle.yaml_base.specs.values.TypedValues.{int_tag}
use Rattle.yaml_writer.specs.Writing.{float_tag}

-- The meaning of a word of both schemas. The empty text, which can't be plain everywhere, is none.
abbrev pub word_meant : Text → Option Resolved
word_meant text = if is_empty text then None else named words_of_core text

-- true of the digit 0
abbrev pub is_zero : ℕ → Bool
is_zero c = c == 0x30

-- an octal digit, after zeros or none
abbrev pub is_padded_digit : Text → Bool
is_padded_digit digits = are_digits 8 digits && nat_le (length (past is_zero digits)) 1

-- `0`, or decimal digits of which the first isn't 0, or `007`: the schemas read `017` as two integers, and the core schema alone `08`
abbrev pub are_integer_digits : Text → Bool
are_integer_digits digits = is_whole_part digits || is_padded_digit digits

-- `0x` and hexadecimal digits
abbrev pub is_hexadecimal : Text → Bool
is_hexadecimal (zero_digit ∷ letter ∷ digits) = zero_digit == 0x30 && letter == 0x78 && are_digits 16 digits
is_hexadecimal _ = false

-- digits before and after one point, one or more in all
abbrev pub is_pointed : List Text → Bool
is_pointed (whole ∷ fraction ∷ []) = are_digits 10 (whole ++ fraction)
is_pointed _ = false

-- a sign and digits
abbrev pub is_signed : Text → Bool
is_signed text = first_meets is_plus_or_minus text && are_digits 10 (past_sign text)

-- True if this exponent was cut off and is such, or none was.
abbrev pub is_signed_exponent : Option JsonExponent → Bool
is_signed_exponent None = true
is_signed_exponent (Some exponent) = is_some exponent.sign && are_digits 10 exponent.digits

-- digits with a point; and an exponent, which has a sign, or none
abbrev pub is_float_cut : List Text → Bool
is_float_cut (mantissa ∷ []) = is_pointed (slice_split is_point mantissa)
is_float_cut (mantissa ∷ exponent ∷ []) = is_pointed (slice_split is_point mantissa) && is_signed exponent
is_float_cut _ = false

-- an integer: a sign or none and such digits, or hexadecimal ones without a sign
abbrev pub is_plain_integer : Text → Bool
is_plain_integer text = are_integer_digits (past_sign text) || is_hexadecimal text

-- A float: a sign or none, such digits, and an exponent after `e` or `E` or none.
abbrev pub is_plain_float : Text → Bool
is_plain_float text = is_float_cut (slice_split is_exponent_letter (past_sign text))

-- the tag of a number that both schemas read
abbrev pub plain_number_tag : Text → Option Text
plain_number_tag text = option_or (some_if (is_plain_integer text) int_tag) (some_if (is_plain_float text) float_tag)

-- the tag of such a word or number
abbrev pub plain_tag : Text → Option Text
plain_tag text = option_or (option_map canonical_tag (word_meant text)) (plain_number_tag text)

-- that tag is this one
abbrev pub has_plain_tag : Text → Text → Bool
has_plain_tag text tag = is_same_text (plain_tag text) (Some tag)

-- a plain text has this tag without its being written: a text that is surely one, or such a word or number
abbrev pub implies_tag : Text → Text → Bool
implies_tag text tag = if bytes_eq tag string_tag then is_surely_text text else has_plain_tag text tag

-- ---- words in groups

-- nothing
abbrev pub null_words : Text
null_words = codes "~ null Null NULL"

-- true and false
abbrev pub bool_words : Text
bool_words = codes "true True TRUE false False FALSE"

-- infinity and no number
abbrev pub float_words : Text
float_words = codes ".inf .Inf .INF +.inf +.Inf +.INF -.inf -.Inf -.INF .nan .NaN .NAN"

-- ---- the law

-- A text is written plain at every place outside canonical form, whichever characters are written as themselves.
abbrev pub IsWrittenPlain : Text → Type 0
IsWrittenPlain text =
    (charset : Charset) (flow simple_key : Bool)
    → (chosen (allowances charset text) plain (is_empty text) false true false flow simple_key false).style ≡ plain

-- such a word or number is written plain, and both schemas read the same of it, which has its tag
abbrev pub PlainTagsAreRead : Type 0
PlainTagsAreRead =
    (text tag : Text) → plain_tag text ≡ Some tag
    → IsWrittenPlain text × (resolved_by_11 text ≡ resolved_by_core text) × (canonical_tag (resolved_by_core text) ≡ tag)

-- There are no others: if both schemas give a text the same tag, other than that of texts, and if it is that of integers the same integer,
-- it is the plain tag.
abbrev pub PlainTagsAreAll : Type 0
PlainTagsAreAll =
    (text tag : Text) → is_empty text ≡ false → bytes_eq tag string_tag ≡ false
    → canonical_tag (resolved_by_11 text) ≡ tag → canonical_tag (resolved_by_core text) ≡ tag
    → (tag ≡ int_tag → resolved_by_11 text ≡ resolved_by_core text) → plain_tag text ≡ Some tag
