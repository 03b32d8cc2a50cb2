-- The parts of a number of JSON, each as it must be.
use Rattle.yaml_writer.proofs.Common.{Option, None, Some, Bool, true, ◌&&◌, refl, ◌≡◌, and_parts, Text, JsonExponent, JsonNumber, is_whole_part, is_json_number}
use Rattle.yaml_writer.proofs.Common.{are_digits, is_fraction, is_exponent}

-- the tests of which a number's is made
pub record Valid (number : JsonNumber) : Type 0 where
  pub whole : is_whole_part number.whole ≡ true
  pub fraction : is_fraction number.fraction ≡ true
  pub exponent : is_exponent number.exponent ≡ true

pub valid_parts : (number : JsonNumber) → is_json_number number ≡ true → Valid number
valid_parts number h =
    let fraction_valid : Bool = elim number.fraction as (λ _. Bool) [ None ↦ true | Some digits ↦ are_digits 10 digits ] in
    let exponent_valid : Bool = elim number.exponent as (λ _. Bool) [ None ↦ true | Some exponent ↦ are_digits 10 exponent.digits ] in
    let outer = and_parts (is_whole_part number.whole && fraction_valid) exponent_valid h in
    let inner = and_parts (is_whole_part number.whole) fraction_valid outer.0 in
    record { whole = inner.0; fraction = by_fraction number.fraction inner.1; exponent = by_exponent number.exponent outer.1 }
  where
    by_fraction : (o : Option Text) → elim o as (λ _. Bool) [ None ↦ true | Some digits ↦ are_digits 10 digits ] ≡ true → is_fraction o ≡ true
    by_fraction None g = refl
    by_fraction (Some digits) g = g

    by_exponent : (o : Option JsonExponent) → elim o as (λ _. Bool) [ None ↦ true | Some exponent ↦ are_digits 10 exponent.digits ] ≡ true
        → is_exponent o ≡ true
    by_exponent None g = refl
    by_exponent (Some exponent) g = g
