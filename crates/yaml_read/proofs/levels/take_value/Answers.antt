use Rattle.yaml_read.proofs.Common.{Ok, subst, seen_level, seen_value, BehindRead, Entry}
use Rattle.yaml_read.proofs.Taken.{taken_lacks, taken_goes_on, taken_ends}
use Rattle.yaml_read.proofs.levels.take_value.Goals as goal

pub returns-in-Ok-Another : goal.returns-in-Ok-Another
returns-in-Ok-Another g c =
    taken_goes_on c.args.depth (seen_level c.args.level) (seen_value c.args.value) c.in-Ok.more c.args.text.now c.in-Ok-Another.rest c.in-Ok.ensures
    (subst (λ (e : Entry). BehindRead c.args.depth (seen_level c.in-Ok.more) c.args.text.now (Ok e)) c.in-Ok-Another.field-0-is c.in-Ok-Another.ensures)

pub returns-in-Ok-End : goal.returns-in-Ok-End
returns-in-Ok-End g c =
    taken_ends _ _ _ c.in-Ok.more c.closed_value.result _ c.in-Ok-End.rest c.in-Ok.ensures c.closed_value.ensures
    (subst (λ (e : Entry). BehindRead c.args.depth (seen_level c.in-Ok.more) c.args.text.now (Ok e)) c.in-Ok-End.field-0-is c.in-Ok-End.ensures)

pub returns-in-Err-behind_value : goal.returns-in-Err-behind_value
returns-in-Err-behind_value g c = taken_lacks g.row.A.Denot _ _ _ _ _ _ c.in-Ok.ensures c.in-Err-behind_value.ensures
