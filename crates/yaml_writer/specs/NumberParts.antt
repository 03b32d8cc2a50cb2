-- How a text is cut into the parts of a number of JSON, and how it is spelled.
use Rattle.std.specs.Prelude.{◌≡◌, ℕ, Bool, true, false, Option, None, Some, [], ◌∷◌, ◌==◌, option_map, if◌then◌else◌}
use Rattle.yaml_base.specs.Characters.{Text}
use Rattle.yaml_base.specs.values.Resolved.{is_negative, past_sign, are_digits}
use Rattle.yaml_base.specs.values.JsonNumbers.{JsonNumber, JsonExponent, is_json_number, json_text}

-- The texts before and after the first of a sign.
abbrev pub cut_at_first : ℕ → Text → Option (Text × Text)
cut_at_first sign [] = None
cut_at_first sign (c ∷ rest) = if c == sign then Some ([], rest) else option_map (λ parts. (c ∷ parts.0, parts.1)) (cut_at_first sign rest)

-- a text without the `-` that begins it
abbrev pub past_minus : Text → Text
past_minus [] = []
past_minus (c ∷ rest) = if c == 0x2D then rest else c ∷ rest

-- the sign that begins a text, true being `-`
abbrev pub sign_of : Text → Option Bool
sign_of [] = None
sign_of (c ∷ rest) = if c == 0x2D then Some true else (if c == 0x2B then Some false else None)

-- An exponent by the text after its letter.
abbrev pub exponent_in : (capital : Bool) → Text → JsonExponent
exponent_in capital text = record { capital = capital; sign = sign_of text; digits = past_sign text }

-- The parts before and after an exponent's letter; without one, the whole text is the first.
abbrev pub around : (capital : Bool) → Option (Text × Text) → (Text × Option JsonExponent) → Text × Option JsonExponent
around capital (Some parts) none = (parts.0, Some (exponent_in capital parts.1))
around capital None none = none

-- a mantissa and an exponent
abbrev pub exponent_cut : Text → Text × Option JsonExponent
exponent_cut text = around false (cut_at_first 0x65 text) (around true (cut_at_first 0x45 text) (text, None))

-- The parts before and after a point; without one, the whole text is the first.
abbrev pub around_point : Option (Text × Text) → Text → Text × Option Text
around_point (Some parts) text = (parts.0, Some parts.1)
around_point None text = (text, None)

-- a whole part and a fraction
abbrev pub fraction_cut : Text → Text × Option Text
fraction_cut text = around_point (cut_at_first 0x2E text) text

-- the parts of a text
abbrev pub number_in : Text → JsonNumber
number_in text =
    let parts = exponent_cut (past_minus text) in
    let mantissa = fraction_cut parts.0 in
    record { negative = is_negative text; whole = mantissa.0; fraction = mantissa.1; exponent = parts.1 }

-- a text is this number of JSON
pub record IsNumber (text : Text) (number : JsonNumber) : Type 0 where
  pub valid : is_json_number number ≡ true
  pub text_is : text ≡ json_text number

-- a text is some number of JSON
abbrev pub HasNumber : Text → Type 0
HasNumber text = (number : JsonNumber) × IsNumber text number

-- a text is none
abbrev pub IsNoNumber : Text → Type 0
IsNoNumber text = (number : JsonNumber) → IsNumber text number → ⊥

-- digits after the point, or nothing
abbrev pub is_fraction : Option Text → Bool
is_fraction None = true
is_fraction (Some digits) = are_digits 10 digits

-- an exponent that has digits, or none
abbrev pub is_exponent : Option JsonExponent → Bool
is_exponent None = true
is_exponent (Some exponent) = are_digits 10 exponent.digits
