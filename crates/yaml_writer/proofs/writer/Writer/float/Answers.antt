use Rattle.yaml_writer.proofs.Common.{Bool, ap, sym, ◌∙◌, if◌then◌else◌}
use Rattle.yaml_writer.proofs.{FloatLemmas.gives_number, FloatLemmas.gives_special, NumberTexts.has_plain}
use Rattle.std.specs.Float.{binary64, float_zero}
use Rattle.std.specs.Float.Ieee.{lt}
use Rattle.yaml_writer.specs.declared.floats.SpecialFloat.TheVariants.{Infinity, NegativeInfinity, NotANumber}
use Rattle.yaml_writer.proofs.writer.Writer.float.Goals as goal

pub number_in-requires : goal.number_in-requires
number_in-requires g c = has_plain c.format_finite.result.now c.format_finite.ensures.plain

pub returns-then-is_finite : goal.returns-then-is_finite
returns-then-is_finite g c =
    gives_number binary64 c.args.self.now c.number.new.self c.args.value c.number.result (sym c.is_finite.ensures.value ∙ c.if-is_finite.true)
    c.number_in.result (record { text = c.format_finite.result.now; is_number = c.number_in.ensures; reads = c.format_finite.ensures.parses })
    c.number.ensures

pub returns : goal.returns
unfolding lt lib.Ieee.of_bits
returns g c =
    gives_special binary64 c.args.self.now c.special_float.new.self c.args.value c.special_float.result (sym c.is_finite.ensures.value ∙ c.if-is_finite.false)
    c.special_of.result
    (c.special_of.ensures
    ∙ ap (λ (b : Bool). if b then NotANumber else (if lt c.args.value float_zero then NegativeInfinity else Infinity)) c.is_nan.ensures.value)
    c.special_float.ensures
