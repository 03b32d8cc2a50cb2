use Rattle.yaml_writer.proofs.Common.{refl, ap, ap₂, ◌∙◌, w64, to_z-of_z, signed_decimal, chars-literal, int_tag, word_event}
use Rattle.yaml_emitter.proofs.Digits.{digits_seen}
use Rattle.yaml_writer.proofs.Taken.{given_as}
use Rattle.yaml_writer.proofs.writer.Writer.int.Goals as goal

pub returns : goal.returns
returns g c =
    let digits = digits_seen c.args.value c.format.result.now c.ranges.value
    (c.format.ensures.text ∙ ap signed_decimal (to_z-of_z w64 c.args.value c.ranges.value)) in
    given_as c.args.self.now c.word.new.self c.word.result (ap₂ (word_event c.args.self.now) (chars-literal int_tag refl) digits) c.word.ensures
