use Rattle.yaml_read.proofs.Common.{not, ◌&&◌, ap, sym, ◌∙◌, chars}
use Rattle.yaml_read.proofs.TagTexts.{spelled_whole, stays_by, stays_not}
use Rattle.yaml_read.proofs.tags.is_spelled_by.Goals as goal

pub returns-then-is_empty : goal.returns-then-is_empty
returns-then-is_empty c =
    stays_not c.args.tag.now (sym c.is_empty-2.ensures ∙ c.if-is_empty.true) c.utf8.tag
    ∙ sym (spelled_whole c.args.prefix.now (chars c.args.tag.now) (sym c.is_empty.ensures ∙ c.if-not-is_empty.false))

pub returns : goal.returns
returns c =
    sym (ap (λ b. not b && not c.goes_on-3.result) c.if-goes_on.false)
    ∙ stays_by c.args.tag.now c.goes_on-2.result c.goes_on-3.result c.utf8.tag (sym c.is_empty-2.ensures ∙ c.if-is_empty.false) c.goes_on-2.ensures
    c.goes_on-3.ensures ∙ sym (spelled_whole c.args.prefix.now (chars c.args.tag.now) (sym c.is_empty.ensures ∙ c.if-not-is_empty.false))
