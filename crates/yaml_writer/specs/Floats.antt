-- Floats: how they are written, and how the words of those that are no numbers of JSON are read.
use Rattle.std.specs.Prelude.{◌≡◌, true, false, codes, if◌then◌else◌, Some, Result}
use Rattle.std.specs.Float.Ieee.{Float, Format, nan, inf, fin}
use Rattle.std.specs.Float.Parse.{parse_float}
use Rattle.yaml_base.specs.Characters.{Text}
use Rattle.yaml_base.specs.Event.{Event}
use Rattle.yaml_base.specs.declared.errors.yaml_error_t.{yaml_error_t}
use Rattle.yaml_base.specs.values.JsonNumbers.{JsonNumber}
use Rattle.yaml_base.specs.values.Resolved.{Resolved, meant_infinity, meant_nan}
use Rattle.yaml_base.specs.values.SchemaCore.{resolved_by_core}
use Rattle.yaml_base.specs.values.SchemaOf11.{resolved_by_11}
use Rattle.yaml_writer.specs.NumberParts.{IsNumber}
use Rattle.yaml_writer.specs.Writing.{WriterState, Gives, float_tag, number_event, word_event}
use Rattle.yaml_writer.specs.declared.floats.SpecialFloat.{SpecialFloat}
use Rattle.yaml_writer.specs.declared.floats.SpecialFloat.TheVariants.{Infinity, NegativeInfinity, NotANumber}

-- the word of each
abbrev pub special_text : SpecialFloat → Text
special_text Infinity = codes ".inf"
special_text NegativeInfinity = codes "-.inf"
special_text NotANumber = codes ".nan"

-- The float of each word.
abbrev pub special_meaning : SpecialFloat → Resolved
special_meaning Infinity = meant_infinity false
special_meaning NegativeInfinity = meant_infinity true
special_meaning NotANumber = meant_nan

-- the word, plain, with the tag of floats in canonical form
abbrev pub special_event : WriterState → SpecialFloat → Event
special_event writer value = word_event writer float_tag (special_text value)

-- both schemas read the word of each as exactly that float
abbrev pub SpecialFloatsAreRead : Type 0
SpecialFloatsAreRead =
    (value : SpecialFloat)
    → (resolved_by_11 (special_text value) ≡ special_meaning value) × (resolved_by_core (special_text value) ≡ special_meaning value)

-- a number of JSON has a text that reads as exactly this float: no other float is nearer to the number
pub record ReadsAsFloat (format : Format) (float : Float) (number : JsonNumber) : Type 0 where
  pub text : Text
  pub is_number : IsNumber text number
  pub reads : parse_float format text ≡ Some float

-- a float was given: as a number that reads as this float, or as the word of one that is no number
abbrev pub GivesFloat : Format → WriterState → Float → Result (Unit {0}) yaml_error_t → WriterState → Type 0
GivesFloat format before nan answer after = Gives before (special_event before NotANumber) answer after
GivesFloat format before (inf negative) answer after =
    Gives before (special_event before (if negative then NegativeInfinity else Infinity)) answer after
GivesFloat format before (fin negative significand exponent) answer after =
    (number : JsonNumber) × ReadsAsFloat format (fin negative significand exponent) number × Gives before (number_event before number) answer after
