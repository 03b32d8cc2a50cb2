-- The view of a number of JSON in contracts: its parts.
use Rattle.std.specs.Prelude.{Bool, true, false, option_map}
use Rattle.yaml_base.specs.values.JsonNumbers.{JsonNumber, JsonExponent}
use Rattle.yaml_writer.specs.declared.numbers.Sign.{Sign}
use Rattle.yaml_writer.specs.declared.numbers.Sign.TheVariants.{Plus, Minus}
use Rattle.yaml_writer.specs.declared.numbers.ExponentLetter.{ExponentLetter}
use Rattle.yaml_writer.specs.declared.numbers.ExponentLetter.TheVariants.{Small, Capital}
use Rattle.yaml_writer.specs.declared.numbers.Exponent.{Exponent}
use Rattle.yaml_writer.specs.declared.numbers.Parts.{Parts}

-- a sign, true being `-`
abbrev pub is_minus : Sign → Bool
is_minus Plus = false
is_minus Minus = true

-- whether an exponent's letter is `E`
abbrev pub is_capital : ExponentLetter → Bool
is_capital Small = false
is_capital Capital = true

-- an exponent
abbrev pub seen_exponent : Exponent → JsonExponent
seen_exponent exponent =
    record {
      capital = is_capital exponent.letter;
      sign = option_map is_minus exponent.sign;
      digits = exponent.digits.now;
    }

-- the number of some parts
abbrev pub seen_parts : Parts → JsonNumber
seen_parts parts =
    record {
      negative = parts.negative;
      whole = parts.whole.now;
      fraction = option_map (λ fraction. fraction.now) parts.fraction;
      exponent = option_map seen_exponent parts.exponent;
    }
