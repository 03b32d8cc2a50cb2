-- The type repository of YAML 1.1 (yaml.org/type: null, bool, int, float, timestamp, merge, value): the meaning of a plain scalar without
-- a tag.
use Rattle.std.specs.Prelude.{ℕ, pos, ℤ, neg_ℤ, Bool, false, Option, None, List, [], ◌∷◌, ◌++◌, ◌==◌, ◌||◌, ◌&&◌, ◌+◌, ◌*◌, ◌^◌, not, nat_le, length, drop}
use Rattle.std.specs.Prelude.{fold, codes, if◌then◌else◌}
use Rattle.std.specs.List.{list_all, slice_split, filter, concat, prefix_len, take_while}
use Rattle.std.specs.Char.{is_digit}
use Rattle.std.specs.Str.Parse.{digits_value}
use Rattle.yaml_base.specs.Characters.{Text, is_blank}
use Rattle.yaml_base.specs.Words.{named, is_word}
use Rattle.yaml_base.specs.values.Resolved.{Decimal, Resolved, meant_integer, meant_decimal, meant_timestamp, meant_by_nobody, first_reading, some_if}
use Rattle.yaml_base.specs.values.Resolved.{words_of_11, is_point, is_exponent_letter, is_plus_or_minus, is_decimal, first_meets, past_sign}
use Rattle.yaml_base.specs.values.Resolved.{is_negative, signed, are_digits}
use Rattle.yaml_base.specs.values.Resolved.{counted_digits, decimal_of_digits, exponent_read, scientific}

-- ---- integers

-- true of the underscore, which may group digits
abbrev pub is_underscore : ℕ → Bool
is_underscore c = c == 0x5F

-- the digits without the underscores
abbrev pub ungrouped : Text → Text
ungrouped text = filter (λ c. not (is_underscore c)) text

-- true of digits in a base, and underscores
abbrev pub are_grouped : ℕ → Text → Bool
are_grouped base text = list_all (λ c. is_digit c base || is_underscore c) text

-- true of decimal digits and underscores, the first of which is a digit that passes a test
abbrev pub begins_grouped : (ℕ → Bool) → Text → Bool
begins_grouped test text = first_meets test text && are_grouped 10 text

-- true of a decimal digit that isn't 0
abbrev pub is_leading : ℕ → Bool
is_leading c = is_decimal c && not (c == 0x30)

-- an integer of these digits; if there are underscores alone, it is meant by nobody
abbrev pub integer_of_digits : (negative : Bool) → ℕ → Text → Resolved
integer_of_digits negative base digits =
    if length digits == 0 then meant_by_nobody else meant_integer (signed negative (digits_value base digits))

-- `0`, a letter, and digits in its base
abbrev pub based_11 : (negative : Bool) → (letter base : ℕ) → Text → Option Resolved
based_11 negative letter base (zero_digit ∷ c ∷ d ∷ digits) =
    some_if (zero_digit == 0x30 && c == letter && are_grouped base (d ∷ digits)) (integer_of_digits negative base (ungrouped (d ∷ digits)))
based_11 negative letter base _ = None

-- `0` and octal digits
abbrev pub octal_11 : (negative : Bool) → Text → Option Resolved
octal_11 negative (zero_digit ∷ d ∷ digits) =
    some_if (zero_digit == 0x30 && are_grouped 8 (d ∷ digits)) (meant_integer (signed negative (digits_value 8 (ungrouped (d ∷ digits)))))
octal_11 negative _ = None

-- `0`, or decimal digits of which the first isn't 0
abbrev pub decimal_11 : (negative : Bool) → Text → Option Resolved
decimal_11 negative text =
    some_if (is_word text (codes "0") || begins_grouped is_leading text) (meant_integer (signed negative (digits_value 10 (ungrouped text))))

-- ---- numbers to the base of sixty

-- true of one digit, and of two of which the first is at most 5
abbrev pub is_sixtieth : Text → Bool
is_sixtieth text = counted_digits 1 2 text && nat_le (digits_value 10 text) 59

-- groups of digits as one number to the base of sixty
abbrev pub sexagesimal : List Text → ℕ
sexagesimal groups = fold (λ total group. total * 60 + digits_value 10 (ungrouped group)) 0 groups

-- true of two groups or more, the first of which begins with a digit that passes a test
abbrev pub are_sixtieths : (ℕ → Bool) → List Text → Bool
are_sixtieths test (first ∷ second ∷ rest) = begins_grouped test first && list_all is_sixtieth (second ∷ rest)
are_sixtieths test _ = false

-- true of the sign between groups
abbrev pub is_colon : ℕ → Bool
is_colon c = c == 0x3A

-- groups to the base of sixty: hours, minutes and seconds, as one integer
abbrev pub sixties_11 : (negative : Bool) → List Text → Option Resolved
sixties_11 negative groups = some_if (are_sixtieths is_leading groups) (meant_integer (signed negative (sexagesimal groups)))

-- such groups, a point, and decimals of the last of them
abbrev pub fine_sixties_11 : (negative : Bool) → List Text → Option Resolved
fine_sixties_11 negative (whole ∷ fraction ∷ []) =
    let groups = slice_split is_colon whole in
    let decimals = ungrouped fraction in
    some_if (are_sixtieths is_decimal groups && are_grouped 10 fraction)
    (meant_decimal (record {
      digits = signed negative (sexagesimal groups * 10 ^ length decimals + digits_value 10 decimals);
      exponent = neg_ℤ (pos (length decimals));
    }))
fine_sixties_11 negative _ = None

-- ---- floats

-- the value of digits with one point; if digits precede it, there may be underscores
abbrev pub mantissa_11 : (negative : Bool) → List Text → Option Decimal
mantissa_11 negative ([] ∷ fraction ∷ []) = decimal_of_digits negative [] fraction
mantissa_11 negative (whole ∷ fraction ∷ []) =
    if begins_grouped is_decimal whole && are_grouped 10 fraction then decimal_of_digits negative (ungrouped whole) (ungrouped fraction) else None
mantissa_11 negative _ = None

-- an exponent has a sign
abbrev pub exponent_11 : Text → Option ℤ
exponent_11 text = if first_meets is_plus_or_minus text then exponent_read text else None

-- a mantissa with a point, and an exponent after `e` or `E` or none
abbrev pub float_11 : (negative : Bool) → Text → Option Resolved
float_11 negative text =
    scientific (λ mantissa. mantissa_11 negative (slice_split is_point mantissa)) exponent_11 (slice_split is_exponent_letter text)

-- true of digits with two points or more
abbrev pub has_more_points : List Text → Bool
has_more_points (whole ∷ first ∷ second ∷ rest) =
    (length whole == 0 || begins_grouped is_decimal whole)
    && are_digits 10 (ungrouped whole ++ concat (first ∷ second ∷ rest))
has_more_points _ = false

-- a mantissa with two points or more is meant by nobody
abbrev pub more_points_11 : List Text → Option Resolved
more_points_11 (mantissa ∷ []) = some_if (has_more_points (slice_split is_point mantissa)) meant_by_nobody
more_points_11 (mantissa ∷ exponent ∷ []) =
    some_if (has_more_points (slice_split is_point mantissa) && first_meets is_plus_or_minus exponent && are_digits 10 (past_sign exponent)) meant_by_nobody
more_points_11 _ = None

-- points alone are meant by nobody, too
abbrev pub points_11 : Text → Option Resolved
points_11 text = some_if (first_meets is_point text && list_all is_point text) meant_by_nobody

-- ---- timestamps

-- the text after the longest prefix whose characters pass a test
abbrev pub past : (ℕ → Bool) → Text → Text
past test text = drop (prefix_len test text) text

-- true of the sign between a date's parts
abbrev pub is_hyphen : ℕ → Bool
is_hyphen c = c == 0x2D

-- true of a year, a month and a day; month and day have at least so many digits
abbrev pub is_date : ℕ → List Text → Bool
is_date least (year ∷ month ∷ day ∷ []) = counted_digits 4 4 year && counted_digits least 2 month && counted_digits least 2 day
is_date least _ = false

-- true of seconds, and decimals of them after a point or none
abbrev pub are_seconds : List Text → Bool
are_seconds (seconds ∷ []) = counted_digits 2 2 seconds
are_seconds (seconds ∷ decimals ∷ []) = counted_digits 2 2 seconds && list_all is_decimal decimals
are_seconds _ = false

-- true of hours, minutes and seconds
abbrev pub is_clock : List Text → Bool
is_clock (hours ∷ minutes ∷ seconds ∷ []) =
    counted_digits 1 2 hours && counted_digits 2 2 minutes && are_seconds (slice_split is_point seconds)
is_clock _ = false

-- true of hours, and minutes or none
abbrev pub is_offset : List Text → Bool
is_offset (hours ∷ []) = counted_digits 1 2 hours
is_offset (hours ∷ minutes ∷ []) = counted_digits 1 2 hours && counted_digits 2 2 minutes
is_offset _ = false

-- true of `Z`, and of a sign and an offset
abbrev pub is_zone : Text → Bool
is_zone [] = false
is_zone (c ∷ rest) = (c == 0x5A && length rest == 0) || (is_plus_or_minus c && is_offset (slice_split is_colon rest))

-- true of a character of a time of day
abbrev pub in_clock : ℕ → Bool
in_clock c = is_decimal c || is_colon c || is_point c

-- true of a time of day, and a zone after it or none
abbrev pub is_time : Text → Bool
is_time text =
    let rest = past in_clock text in
    is_clock (slice_split is_colon (take_while in_clock text)) && (length rest == 0 || is_zone (past is_blank rest))

-- true of `T`, `t` or blanks, and then a time
abbrev pub is_time_after_date : Text → Bool
is_time_after_date [] = false
is_time_after_date (c ∷ rest) =
    ((c == 0x54 || c == 0x74) && is_time rest) || (is_blank c && is_time (past is_blank rest))

-- true of a character of a date
abbrev pub in_date : ℕ → Bool
in_date c = is_decimal c || is_hyphen c

-- a timestamp: a date alone, or one with a time of day
abbrev pub timestamp_11 : Text → Option Resolved
timestamp_11 text =
    let date = slice_split is_hyphen (take_while in_date text) in
    let rest = past in_date text in
    some_if ((is_date 2 date && length rest == 0) || (is_date 1 date && is_time_after_date rest)) meant_timestamp

-- ---- all

-- the readings of a number without its sign
abbrev pub numbers_11 : (negative : Bool) → Text → List (Option Resolved)
numbers_11 negative text =
    float_11 negative text
    ∷ based_11 negative 0x62 2 text
    ∷ based_11 negative 0x78 16 text
    ∷ octal_11 negative text
    ∷ decimal_11 negative text
    ∷ sixties_11 negative (slice_split is_colon text)
    ∷ fine_sixties_11 negative (slice_split is_point text)
    ∷ more_points_11 (slice_split is_exponent_letter text)
    ∷ points_11 text
    ∷ []

-- the meaning of a scalar by the type repository
abbrev pub resolved_by_11 : Text → Resolved
resolved_by_11 text =
    first_reading (named words_of_11 text ∷ timestamp_11 text ∷ numbers_11 (is_negative text) (past_sign text))
