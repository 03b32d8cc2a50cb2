use Rattle.yaml_tool.proofs.Common.{option_and_then, MatchOption-at_some, later_fields}
use Rattle.yaml_tool.proofs.EventLemmas.{directive_read}
use Rattle.yaml_base.specs.scripts.Script as notation
use Rattle.yaml_tool.proofs.directives.directives_of.Goals as goal

pub loop-left-preserved : goal.loop-left-preserved
loop-left-preserved g c =
    directive_read c.loop-left.directives.items c.push.new.self.items (record { handle = c.in-Some.handle; prefix = c.in-Some-2.prefix })
    (later_fields c.loop-left.left) (later_fields c.in-Some.others) (later_fields c.in-Some-2.others)
    (option_and_then notation.directives_of (later_fields c.args.rest))
    c.loop-left.invariant (MatchOption-at_some _ _ _ c.in-Some.is c.in_ok-handle.ensures.read)
    (MatchOption-at_some _ _ _ c.in-Some-2.is c.in_ok-prefix.ensures.read) c.in_ok-push.ensures.items
