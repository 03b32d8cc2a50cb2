use Rattle.yaml_writer.proofs.Common.{refl, ap₂, chars-literal, int_tag, word_event}
use Rattle.yaml_emitter.proofs.Digits.{number_seen}
use Rattle.yaml_writer.proofs.Taken.{given_as}
use Rattle.yaml_writer.proofs.writer.Writer.unsigned.Goals as goal

pub returns : goal.returns
returns g c =
    given_as c.args.self.now c.word.new.self c.word.result
    (ap₂ (word_event c.args.self.now) (chars-literal int_tag refl) (number_seen c.args.value c.format.result.now c.ranges.value c.format.ensures.text))
    c.word.ensures
