use Rattle.yaml_read.proofs.Common.{seen_level}
use Rattle.yaml_read.proofs.HeldKeys.{follows_fails, node_follows, node_may, off_at}
use Rattle.yaml_read.proofs.keys.follow.Goals as goal

pub at_node-requires : goal.at_node-requires
at_node-requires g c = node_may _ _ _ _ _ _ c.requires c.in-Some.ensures c.take_off-held.ensures

pub returns-in-Ok-push : goal.returns-in-Ok-push
returns-in-Ok-push g c = λ can.
    let at = off_at _ _ _ _ _ _ can c.in-Some.ensures c.take_off-held.ensures in
    node_follows _ _ at.outer (seen_level c.in-Some.level.now) c.take_off-held.result c.in-Ok.more _
    c.take_off-held.new.keys.items _ at.is at.off can.opened c.in-Ok.ensures c.in-Ok-push.ensures

pub returns-in-Err : goal.returns-in-Err
returns-in-Err g c = λ can.
    let at = off_at _ _ _ _ _ _ can c.in-Some.ensures c.take_off-held.ensures in
    follows_fails _ _ at.outer (seen_level c.in-Some.level.now) c.take_off-held.result _
    c.take_off-held.new.keys.items c.take_off-held.new.keys.items c.in-Err.stop at.is at.off can.opened c.in-Err.ensures
