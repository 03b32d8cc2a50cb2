use Rattle.yaml_read.proofs.HeldKeys.{unique_follows}
use Rattle.yaml_read.proofs.keys.follow_by.Goals as goal

pub returns-in-Unique : goal.returns-in-Unique
returns-in-Unique g c = λ can.
    unique_follows _ _ c.follow.new.keys.items _ _ c.follow.result c.in-Unique.is c.follow.ensures can
