use Rattle.yaml_read.proofs.{Common.more_follows, Opening.some_left}
use Rattle.yaml_read.proofs.cuts.end_text.Goals as goal

pub returns-else-is_empty : goal.returns-else-is_empty
returns-else-is_empty c =
    more_follows c.in-Ok.end.now c.in-Ok.ensures.cut (some_left c.in-Ok.end.now _ c.is_empty.ensures c.if-is_empty.false) c.refused_at.ensures
