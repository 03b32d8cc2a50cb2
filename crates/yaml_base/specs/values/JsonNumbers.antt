-- Numbers of JSON (RFC 8259, section 6), and the spelling in which both schemas of YAML read the same number.
use Rattle.std.specs.Prelude.{◌≡◌, ℕ, ℤ, pos, neg_ℤ, negsuc, Bool, true, false, Option, None, Some, [], ◌++◌, ◌==◌, ◌||◌, ◌&&◌, ◌^◌, ◌+ℤ◌, ◌-ℤ◌, ◌*ℤ◌, not}
use Rattle.std.specs.Prelude.{length, codes, is_some, if◌then◌else◌}
use Rattle.std.specs.Str.Parse.{digits_value}
use Rattle.std.specs.Ordering.{int_eq}
use Rattle.yaml_base.specs.Characters.{Text}
use Rattle.yaml_base.specs.Words.{is_word}
use Rattle.yaml_base.specs.values.Resolved.{Decimal, Resolved, meant_integer, meant_decimal, first_meets, signed, are_digits}
use Rattle.yaml_base.specs.values.SchemaCore.{resolved_by_core}
use Rattle.yaml_base.specs.values.SchemaOf11.{resolved_by_11}

-- an exponent: `E` or `e`; a sign or none, true being `-`; digits
pub record JsonExponent : Type 0 where
  pub capital : Bool
  pub sign : Option Bool
  pub digits : Text

-- a number: `-` or nothing; digits; a point and digits, or nothing; an exponent, or nothing
pub record JsonNumber : Type 0 where
  pub negative : Bool
  pub whole : Text
  pub fraction : Option Text
  pub exponent : Option JsonExponent

-- true of `0`, and of digits of which the first isn't 0
abbrev pub is_whole_part : Text → Bool
is_whole_part digits = are_digits 10 digits && (is_word digits (codes "0") || not (first_meets (λ c. c == 0x30) digits))

-- true if digits are in each place that needs them
abbrev pub is_json_number : JsonNumber → Bool
is_json_number number =
    is_whole_part number.whole
    && elim number.fraction as (λ _. Bool) [
      | None ↦ true
      | Some digits ↦ are_digits 10 digits
    ]
    && elim number.exponent as (λ _. Bool) [
      | None ↦ true
      | Some exponent ↦ are_digits 10 exponent.digits
    ]

-- `-` before a negative number
abbrev pub minus : Bool → Text
minus negative = if negative then codes "-" else []

-- the text of an exponent
abbrev pub exponent_text : Option JsonExponent → Text
exponent_text None = []
exponent_text (Some exponent) =
    (if exponent.capital then codes "E" else codes "e")
    ++ elim exponent.sign as (λ _. Text) [
      | None ↦ []
      | Some negative ↦ if negative then codes "-" else codes "+"
    ]
    ++ exponent.digits

-- the text of a number
abbrev pub json_text : JsonNumber → Text
json_text number =
    minus number.negative ++ number.whole
    ++ elim number.fraction as (λ _. Text) [
      | None ↦ []
      | Some digits ↦ codes "." ++ digits
    ]
    ++ exponent_text number.exponent

-- true if an exponent is negative
abbrev pub exponent_negative : JsonExponent → Bool
exponent_negative exponent = elim exponent.sign as (λ _. Bool) [
  | None ↦ false
  | Some negative ↦ negative
]

-- the value of an exponent
abbrev pub exponent_value : Option JsonExponent → ℤ
exponent_value None = pos 0
exponent_value (Some exponent) = signed (exponent_negative exponent) (digits_value 10 exponent.digits)

-- a number's exact value, with these digits after its point
abbrev pub value_with : JsonNumber → Text → Decimal
value_with number fraction = record {
  digits = signed number.negative (digits_value 10 (number.whole ++ fraction));
  exponent = neg_ℤ (pos (length fraction)) +ℤ exponent_value number.exponent;
}

-- the digits after a number's point
abbrev pub fraction_or_default : Text → JsonNumber → Text
fraction_or_default digits number = elim number.fraction as (λ _. Text) [
  | None ↦ digits
  | Some fraction ↦ fraction
]

-- a number's exact value
abbrev pub json_value : JsonNumber → Decimal
json_value number = value_with number (fraction_or_default [] number)

-- true of an integer of JSON, but for `-0`
abbrev pub is_json_integer : JsonNumber → Bool
is_json_integer number =
    not (is_some number.fraction) && not (is_some number.exponent) && not (number.negative && is_word number.whole (codes "0"))

-- the exponent as YAML 1.1 needs it, with a sign
abbrev pub exponent_spelled : Option JsonExponent → Text
exponent_spelled None = []
exponent_spelled (Some exponent) = codes "e" ++ (if exponent_negative exponent then codes "-" else codes "+") ++ exponent.digits

-- the spelling: an integer as it is; any other number with a point, and with a sign in its exponent
abbrev pub yaml_number : JsonNumber → Text
yaml_number number =
    minus number.negative ++ number.whole
    ++ (if is_json_integer number then [] else codes "." ++ fraction_or_default (codes "0") number ++ exponent_spelled number.exponent)

-- the meaning of that spelling by either schema
abbrev pub number_meant : JsonNumber → Resolved
number_meant number =
    if is_json_integer number then meant_integer (signed number.negative (digits_value 10 number.whole))
    else meant_decimal (value_with number (fraction_or_default (codes "0") number))

-- the difference by which the first integer exceeds the second; 0 if it doesn't
abbrev pub above : ℤ → ℤ → ℕ
above high low = elim (high -ℤ low) as (λ _. ℕ) [
  | pos n ↦ n
  | negsuc n ↦ 0
]

-- true if two decimals are the same number
abbrev pub is_same_number : Decimal → Decimal → Bool
is_same_number a b =
    int_eq (a.digits *ℤ pos (10 ^ above a.exponent b.exponent)) (b.digits *ℤ pos (10 ^ above b.exponent a.exponent))

-- true if a reading is this number
abbrev pub means_number : Decimal → Resolved → Bool
means_number number (meant_integer integer) = is_same_number (record { digits = integer; exponent = pos 0 }) number
means_number number (meant_decimal decimal) = is_same_number decimal number
means_number number _ = false

-- each number of JSON, so spelled, is that number by both schemas
abbrev pub NumbersAreRead : Type 0
NumbersAreRead =
    (number : JsonNumber) → is_json_number number ≡ true
    → (means_number (json_value number) (resolved_by_11 (yaml_number number)) ≡ true)
    × (means_number (json_value number) (resolved_by_core (yaml_number number)) ≡ true)
