-- The meanings of a plain scalar without a tag, and the words and digits of which both schemas are made: the type repository of YAML 1.1
-- (yaml.org/type) and the core schema of YAML 1.2 (section 10.3 of its text).
pub use Rattle.yaml_base.specs.Options.{some_if}
use Rattle.std.specs.Prelude.{ℕ, ℤ, pos, neg_ℤ, Bool, true, false, Option, None, Some, List, [], ◌∷◌, ◌++◌, ◌==◌, ◌||◌, ◌&&◌, ◌+ℤ◌, not, length, codes, map}
use Rattle.std.specs.Prelude.{if◌then◌else◌}
use Rattle.std.specs.List.{list_all, slice_split}
use Rattle.std.specs.Char.{is_digit}
use Rattle.std.specs.Str.Parse.{digits_value}
use Rattle.yaml_base.specs.Characters.{Text, is_between, is_space}

-- an exact decimal: these digits, times ten to this exponent
pub record Decimal : Type 0 where
  pub digits : ℤ
  pub exponent : ℤ

-- the meaning of a scalar by a schema; `meant_by_nobody` is the meaning of a text that a pattern of the type repository takes for a number
-- and that no rule gives a value
pub data Resolved : Type 0 where
  meant_null : Resolved
  meant_boolean : Bool → Resolved
  meant_integer : ℤ → Resolved
  meant_decimal : Decimal → Resolved
  meant_infinity : (negative : Bool) → Resolved
  meant_nan : Resolved
  meant_timestamp : Resolved
  meant_merge : Resolved
  meant_value : Resolved
  meant_text : Resolved
  meant_by_nobody : Resolved

-- the first reading, if there is one, else a text
abbrev pub first_reading : List (Option Resolved) → Resolved
first_reading [] = meant_text
first_reading (None ∷ rest) = first_reading rest
first_reading (Some meant ∷ rest) = meant

-- ---- words

-- words, one space apart, that all mean the same
abbrev pub all_mean : Text → Resolved → List (Text × Resolved)
all_mean words meant = map (λ word. (word, meant)) (slice_split is_space words)

-- the words of the core schema
abbrev pub words_of_core : List (Text × Resolved)
words_of_core =
    ([], meant_null)
    ∷ all_mean (codes "~ null Null NULL") meant_null
    ++ all_mean (codes "true True TRUE") (meant_boolean true)
    ++ all_mean (codes "false False FALSE") (meant_boolean false)
    ++ all_mean (codes ".inf .Inf .INF +.inf +.Inf +.INF") (meant_infinity false)
    ++ all_mean (codes "-.inf -.Inf -.INF") (meant_infinity true)
    ++ all_mean (codes ".nan .NaN .NAN") meant_nan

-- the further words of the type repository
abbrev pub words_of_repository : List (Text × Resolved)
words_of_repository =
    all_mean (codes "y Y yes Yes YES on On ON") (meant_boolean true)
    ++ all_mean (codes "n N no No NO off Off OFF") (meant_boolean false)
    ++ all_mean (codes "<<") meant_merge
    ++ all_mean (codes "=") meant_value

-- the words of the type repository
abbrev pub words_of_11 : List (Text × Resolved)
words_of_11 = words_of_core ++ words_of_repository

-- ---- signs and digits

-- true of the sign between a number's whole part and its fraction
abbrev pub is_point : ℕ → Bool
is_point c = c == 0x2E

-- true of the letters before an exponent
abbrev pub is_exponent_letter : ℕ → Bool
is_exponent_letter c = c == 0x65 || c == 0x45

-- true of `+` and `-`
abbrev pub is_plus_or_minus : ℕ → Bool
is_plus_or_minus c = c == 0x2B || c == 0x2D

-- true of a decimal digit
abbrev pub is_decimal : ℕ → Bool
is_decimal c = is_digit c 10

-- true if a text's first character passes a test
abbrev pub first_meets : (ℕ → Bool) → Text → Bool
first_meets test [] = false
first_meets test (c ∷ rest) = test c

-- a text without its sign, if it has one
abbrev pub past_sign : Text → Text
past_sign [] = []
past_sign (c ∷ rest) = if is_plus_or_minus c then rest else c ∷ rest

-- true if a text begins with `-`
abbrev pub is_negative : Text → Bool
is_negative text = first_meets (λ c. c == 0x2D) text

-- a number with a sign
abbrev pub signed : (negative : Bool) → ℕ → ℤ
signed negative number = if negative then neg_ℤ (pos number) else pos number

-- true of digits in a base, one or more
abbrev pub are_digits : ℕ → Text → Bool
are_digits base text = not (length text == 0) && list_all (λ c. is_digit c base) text

-- true of `least` to `most` decimal digits
abbrev pub counted_digits : ℕ → ℕ → Text → Bool
counted_digits least most text = is_between least most (length text) && list_all is_decimal text

-- the decimal of digits before and after the point, one or more in all
abbrev pub decimal_of_digits : (negative : Bool) → (whole fraction : Text) → Option Decimal
decimal_of_digits negative whole fraction =
    if are_digits 10 (whole ++ fraction)
    then Some (record { digits = signed negative (digits_value 10 (whole ++ fraction)); exponent = neg_ℤ (pos (length fraction)) })
    else None

-- the value of digits after a sign or none
abbrev pub exponent_read : Text → Option ℤ
exponent_read text =
    if are_digits 10 (past_sign text) then Some (signed (is_negative text) (digits_value 10 (past_sign text))) else None

-- a decimal times ten to an exponent
abbrev pub times_power_of_ten : Option Decimal → Option ℤ → Option Resolved
times_power_of_ten (Some decimal) (Some exponent) = Some (meant_decimal (record { digits = decimal.digits; exponent = decimal.exponent +ℤ exponent }))
times_power_of_ten _ _ = None

-- a number by its parts before and after `e`
abbrev pub scientific : (mantissa : Text → Option Decimal) → (exponent : Text → Option ℤ) → List Text → Option Resolved
scientific mantissa exponent (m ∷ []) = times_power_of_ten (mantissa m) (Some (pos 0))
scientific mantissa exponent (m ∷ e ∷ []) = times_power_of_ten (mantissa m) (exponent e)
scientific mantissa exponent _ = None
