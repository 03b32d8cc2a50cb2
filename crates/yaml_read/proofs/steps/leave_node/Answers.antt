use Rattle.yaml_read.proofs.Common.{◌≡◌, None, ap, ◌∙◌, seen_await, seen_awaits, trail_text, past_word}
use Rattle.yaml_read.proofs.{Awaits.await_more, Awaits.node_left, Awaits.node_stays, NodeTexts.none_read}
use Rattle.yaml_read.proofs.steps.leave_node.Goals as goal

pub returns-in-Ok-push-clause-goes : goal.returns-in-Ok-push-clause-goes
returns-in-Ok-push-clause-goes g c =
    node_left _ (seen_awaits c.pop.new.self.items) _ (seen_await c.in-Some.awaited) _ _ _ c.in-Ok.rest.now
    (ap seen_awaits c.in-Some.ensures.items ∙ await_more c.pop.new.self.items c.in-Some.awaited)
    (ap seen_awaits c.in-Ok-push.ensures.items ∙ await_more c.pop.new.self.items c.next_await.result) c.next_await.ensures
    (c.trail.ensures (seen_awaits c.pop.new.self.items)) c.in-Ok.ensures.cut

pub returns-in-Err-clause-goes : goal.returns-in-Err-clause-goes
returns-in-Err-clause-goes g c =
    none_read (past_word (trail_text (seen_awaits c.args.awaits.now.items)) c.args.text.now ≡ None) c.in-Err.stop
    (λ _. node_stays (seen_awaits c.args.awaits.now.items) (seen_awaits c.pop.new.self.items) (seen_await c.in-Some.awaited)
    c.trail.result.now c.args.text.now (ap seen_awaits c.in-Some.ensures.items ∙ await_more c.pop.new.self.items c.in-Some.awaited)
    (c.trail.ensures (seen_awaits c.pop.new.self.items)) c.in-Err.ensures.cut)
