-- The spelling of a number of JSON, for callers.
use Rattle.std.specs.Prelude.{◌≡◌, List, Bool, true, Option, None, Some, ◌&&◌, ◌||◌, not, is_some, ℕ}
use Rattle.std.specs.String.{string_bytes}
use Rattle.yaml_base.specs.Characters.{Text}
use Rattle.yaml_base.specs.values.JsonNumbers.{JsonNumber, JsonExponent, is_json_integer, yaml_number}
use Rattle.yaml_writer.specs.NumberParts.{IsNumber}
use Rattle.yaml_writer.specs.declared.spelling.Spelling.{Spelling}
use Rattle.yaml_writer.specs.declared.spelling.Spelling.TheVariants.{Unchanged, Changed}

-- a text is a number of JSON, and this its spelling
pub record Spells (text spelling : Text) : Type 0 where
  pub number : JsonNumber
  pub is_number : IsNumber text number
  pub spelled : spelling ≡ yaml_number number

-- True if an exponent is in its spelling: with `e` and a sign.
abbrev pub is_spelled_exponent : Option JsonExponent → Bool
is_spelled_exponent None = true
is_spelled_exponent (Some exponent) = not exponent.capital && is_some exponent.sign

-- True if a number is in its spelling: an integer, or one with a point and such an exponent.
abbrev pub is_spelled : JsonNumber → Bool
is_spelled number = is_json_integer number || (is_some number.fraction && is_spelled_exponent number.exponent)

-- a text that is no number, or its own spelling
abbrev pub NeedsNoMemory : Text → Type 0
NeedsNoMemory text = (number : JsonNumber) → IsNumber text number → text ≡ yaml_number number

-- the bytes of a spelling
abbrev pub spelling_bytes : {A : Type 0} → Spelling A → List ℕ
spelling_bytes (Unchanged text) = text.now
spelling_bytes (Changed text) = string_bytes text
