use Rattle.yaml_read.proofs.Common.{NoTag, opens_document, opens_type, opens_whole}
use Rattle.yaml_read.proofs.{TagTexts.is_spelled, TagTexts.tag_there, NodeTexts.none_read}
use Rattle.yaml_read.proofs.tags.read_written_tag.Goals as goal

pub returns-in-Some : goal.returns-in-Some
returns-in-Some g c = c.read_spelled.ensures c.args.text.now (opens_whole c.in-Some.inside.now c.in-Some.ensures.cut)

pub returns-in-Some-past : goal.returns-in-Some-past
returns-in-Some-past g c =
    c.read_spelled-in-Some-past.ensures c.args.text.now (opens_type c.in-Some-past.inside.now c.in-None.ensures.cut c.in-Some-past.ensures.cut)

pub returns-in-Ok : goal.returns-in-Ok
returns-in-Ok g c =
    c.read_spelled-in-Ok.ensures c.args.text.now (opens_document c.in-Ok.inside.now c.in-None.ensures.cut c.in-None-past.ensures.cut c.in-Ok.ensures.cut)

pub returns-in-Err : goal.returns-in-Err
returns-in-Err g c =
    none_read (NoTag c.args.text.now) c.in-Err.stop (λ _ tag rest sound scalars is. tag_there _ _ rest _ (is_spelled _ sound) is c.in-Err.ensures.cut)
