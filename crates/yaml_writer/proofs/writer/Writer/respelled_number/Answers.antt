use Rattle.yaml_writer.proofs.Common.{chars, ◌≡◌, ap, ap₂, ◌∙◌, yaml_number, word_event}
use Rattle.yaml_writer.proofs.Taken.{given_as}
use Rattle.yaml_writer.proofs.writer.Writer.respelled_number.Goals as goal

pub returns-in-Ok : goal.returns-in-Ok
returns-in-Ok g c =
    let spelled : chars c.as_str.result.now ≡ yaml_number c.args.number.now = ap chars c.as_str.ensures ∙ c.in-Ok.ensures.spelled in
    given_as c.args.self.now c.word.new.self c.word.result
    (ap₂ (word_event c.args.self.now) c.tag_of_number.ensures spelled) c.word.ensures
