use Rattle.yaml_writer.proofs.Common.{codes, refl, ap₂, chars-literal, word_event}
use Rattle.yaml_base.specs.values.TypedValues.{null_tag}
use Rattle.yaml_writer.proofs.Taken.{given_as}
use Rattle.yaml_writer.proofs.writer.Writer.null.Goals as goal

pub returns : goal.returns
returns g c =
    given_as c.args.self.now c.word.new.self c.word.result
    (ap₂ (word_event c.args.self.now) (chars-literal null_tag refl) (chars-literal (codes "null") refl)) c.word.ensures
