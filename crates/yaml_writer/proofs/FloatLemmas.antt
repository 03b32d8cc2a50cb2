-- How floats are given, and how those that are no numbers are read.
use Rattle.yaml_writer.proofs.Common.{refl, Result, true, false, ◌≡◌, true≢false, subst, sym, if◌then◌else◌, JsonNumber, WriterState}
use Rattle.std.specs.Float.{float_is_finite, float_zero}
use Rattle.std.specs.Float.Ieee.{Float, Format, fin, lt}
use Rattle.std.specs.Prelude.{is_nan}
use Rattle.yaml_base.specs.declared.errors.yaml_error_t.{yaml_error_t}
use Rattle.yaml_writer.specs.Floats.{GivesFloat, ReadsAsFloat, SpecialFloatsAreRead, special_event}
use Rattle.yaml_writer.specs.Writing.{Gives, number_event}
use Rattle.yaml_writer.specs.declared.floats.SpecialFloat.{SpecialFloat}
use Rattle.yaml_writer.specs.declared.floats.SpecialFloat.TheVariants.{Infinity, NegativeInfinity, NotANumber}

-- both schemas read their words
pub special_floats_read : SpecialFloatsAreRead
special_floats_read Infinity = (refl, refl)
special_floats_read _ = (refl, refl)

-- a finite float, by its number
pub gives_number : (format : Format) (before after : WriterState) (float : Float) (answer : Result (Unit {0}) yaml_error_t) → float_is_finite float ≡ true
    → (number : JsonNumber) → ReadsAsFloat format float number → Gives before (number_event before number) answer after
    → GivesFloat format before float answer after
unfolding float_is_finite
gives_number format before after (fin negative significand exponent) answer finite number reads gives = (number, reads, gives)
gives_number format before after _ answer finite number reads gives = absurd (true≢false (sym finite))

-- another one, by its word
pub gives_special : (format : Format) (before after : WriterState) (float : Float) (answer : Result (Unit {0}) yaml_error_t)
    → float_is_finite float ≡ false → (special : SpecialFloat)
    → special ≡ (if is_nan float then NotANumber else (if lt float float_zero then NegativeInfinity else Infinity))
    → Gives before (special_event before special) answer after → GivesFloat format before float answer after
unfolding lib.Ieee.is_nan lt float_is_finite
gives_special format before after (fin negative significand exponent) answer finite special is gives = absurd (true≢false finite)
gives_special format before after _ answer finite special is gives = subst (λ (s : SpecialFloat). Gives before (special_event before s) answer after) is gives
