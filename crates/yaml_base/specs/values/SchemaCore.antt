-- The core schema of YAML 1.2 (section 10.3.2 of its text): the meaning of a plain scalar without a tag.
use Rattle.std.specs.Prelude.{ℕ, pos, Bool, Option, None, List, [], ◌∷◌, ◌==◌, ◌&&◌}
use Rattle.std.specs.List.{slice_split}
use Rattle.std.specs.Str.Parse.{digits_value}
use Rattle.yaml_base.specs.Characters.{Text}
use Rattle.yaml_base.specs.Words.{named}
use Rattle.yaml_base.specs.values.Resolved.{Decimal, Resolved, meant_integer, first_reading, some_if, words_of_core, is_point, is_exponent_letter, past_sign}
use Rattle.yaml_base.specs.values.Resolved.{is_negative, signed, are_digits, decimal_of_digits, exponent_read, scientific}

-- decimal digits after a sign or none
abbrev pub core_integer : Text → Option Resolved
core_integer text =
    some_if (are_digits 10 (past_sign text)) (meant_integer (signed (is_negative text) (digits_value 10 (past_sign text))))

-- `0`, a letter, and digits in its base; no sign
abbrev pub core_based : (letter base : ℕ) → Text → Option Resolved
core_based letter base (zero_digit ∷ c ∷ digits) =
    some_if (zero_digit == 0x30 && c == letter && are_digits base digits) (meant_integer (pos (digits_value base digits)))
core_based letter base _ = None

-- digits with at most one point
abbrev pub core_mantissa : (negative : Bool) → List Text → Option Decimal
core_mantissa negative (whole ∷ []) = decimal_of_digits negative whole []
core_mantissa negative (whole ∷ fraction ∷ []) = decimal_of_digits negative whole fraction
core_mantissa negative _ = None

-- a mantissa, and an exponent after `e` or `E` or none
abbrev pub core_decimal : Text → Option Resolved
core_decimal text =
    scientific (λ mantissa. core_mantissa (is_negative text) (slice_split is_point mantissa)) exponent_read
    (slice_split is_exponent_letter (past_sign text))

-- the meaning of a scalar by the core schema
abbrev pub resolved_by_core : Text → Resolved
resolved_by_core text =
    first_reading (
    named words_of_core text
    ∷ core_integer text
    ∷ core_based 0x6F 8 text
    ∷ core_based 0x78 16 text
    ∷ core_decimal text
    ∷ [])
