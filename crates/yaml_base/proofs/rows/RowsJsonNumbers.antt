-- Numbers of JSON, computed: their text, their spelling in YAML, and its meaning by both schemas.
use Rattle.yaml_base.proofs.Common.{Option, None, Some, codes, negsuc, pos, ℤ, Bool, false, true, refl, ◌≡◌, Text, JsonExponent, JsonNumber, is_json_number}
use Rattle.yaml_base.proofs.Common.{json_value, yaml_number, means_number, Resolved, meant_integer, meant_decimal, resolved_by_core, resolved_by_11}
use Rattle.yaml_base.specs.values.JsonNumbers.{json_text}

-- a number's text and spelling, and the meaning of the spelling, which is the number's value
record Row (number : JsonNumber) (text spelling : Text) (meant : Resolved) : Type 0 where
  grammar : is_json_number number ≡ true
  written : json_text number ≡ text
  spelled : yaml_number number ≡ spelling
  by_11 : resolved_by_11 spelling ≡ meant
  by_core : resolved_by_core spelling ≡ meant
  value : means_number (json_value number) meant ≡ true

-- an exponent
abbrev exponent_of : Bool → Option Bool → Text → Option JsonExponent
exponent_of capital sign digits = Some (record { capital = capital; sign = sign; digits = digits })

-- a number by its parts
abbrev number_of : Bool → Text → Option Text → Option JsonExponent → JsonNumber
number_of negative whole fraction exponent = record { negative = negative; whole = whole; fraction = fraction; exponent = exponent }

-- a decimal by its digits and its exponent
abbrev decimal : ℤ → ℤ → Resolved
decimal digits exponent = meant_decimal (record { digits = digits; exponent = exponent })

zero : Row (number_of false (codes "0") None None) (codes "0") (codes "0") (meant_integer (pos 0))
zero = record { grammar = refl; written = refl; spelled = refl; by_11 = refl; by_core = refl; value = refl }

minus_zero : Row (number_of true (codes "0") None None) (codes "-0") (codes "-0.0") (decimal (pos 0) (negsuc 0))
minus_zero = record { grammar = refl; written = refl; spelled = refl; by_11 = refl; by_core = refl; value = refl }

an_integer : Row (number_of false (codes "12") None None) (codes "12") (codes "12") (meant_integer (pos 12))
an_integer = record { grammar = refl; written = refl; spelled = refl; by_11 = refl; by_core = refl; value = refl }

a_negative_integer : Row (number_of true (codes "120") None None) (codes "-120") (codes "-120") (meant_integer (negsuc 119))
a_negative_integer = record { grammar = refl; written = refl; spelled = refl; by_11 = refl; by_core = refl; value = refl }

past_64_bits : Row (number_of false (codes "18446744073709551616") None None) (codes "18446744073709551616") (codes "18446744073709551616")
    (meant_integer (pos 18446744073709551616))
past_64_bits = record { grammar = refl; written = refl; spelled = refl; by_11 = refl; by_core = refl; value = refl }

a_power : Row (number_of false (codes "1") None (exponent_of false None (codes "5"))) (codes "1e5") (codes "1.0e+5") (decimal (pos 10) (pos 4))
a_power = record { grammar = refl; written = refl; spelled = refl; by_11 = refl; by_core = refl; value = refl }

a_small_power : Row (number_of false (codes "1") None (exponent_of true (Some true) (codes "5"))) (codes "1E-5") (codes "1.0e-5") (decimal (pos 10) (negsuc 5))
a_small_power = record { grammar = refl; written = refl; spelled = refl; by_11 = refl; by_core = refl; value = refl }

a_fraction : Row (number_of false (codes "1") (Some (codes "50")) None) (codes "1.50") (codes "1.50") (decimal (pos 150) (negsuc 1))
a_fraction = record { grammar = refl; written = refl; spelled = refl; by_11 = refl; by_core = refl; value = refl }

a_negative_fraction : Row (number_of true (codes "0") (Some (codes "25")) None) (codes "-0.25") (codes "-0.25") (decimal (negsuc 24) (negsuc 1))
a_negative_fraction = record { grammar = refl; written = refl; spelled = refl; by_11 = refl; by_core = refl; value = refl }

both : Row (number_of true (codes "1") (Some (codes "25")) (exponent_of false None (codes "10"))) (codes "-1.25e10") (codes "-1.25e+10")
    (decimal (negsuc 124) (pos 8))
both = record { grammar = refl; written = refl; spelled = refl; by_11 = refl; by_core = refl; value = refl }

a_plus : Row (number_of false (codes "12") (Some (codes "5")) (exponent_of true (Some false) (codes "07"))) (codes "12.5E+07") (codes "12.5e+07")
    (decimal (pos 125) (pos 6))
a_plus = record { grammar = refl; written = refl; spelled = refl; by_11 = refl; by_core = refl; value = refl }

beyond_floats : Row (number_of false (codes "1") None (exponent_of false None (codes "400"))) (codes "1e400") (codes "1.0e+400") (decimal (pos 10) (pos 399))
beyond_floats = record { grammar = refl; written = refl; spelled = refl; by_11 = refl; by_core = refl; value = refl }

minus_zero_power : Row (number_of true (codes "0") None (exponent_of false None (codes "0"))) (codes "-0e0") (codes "-0.0e+0") (decimal (pos 0) (negsuc 0))
minus_zero_power = record { grammar = refl; written = refl; spelled = refl; by_11 = refl; by_core = refl; value = refl }
