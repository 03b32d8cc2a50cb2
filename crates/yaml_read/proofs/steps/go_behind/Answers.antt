use Rattle.yaml_read.proofs.{Common.ap, Common.◌∙◌, Common.seen_awaits, Awaits.await_more, EventSteps.opened_on}
use Rattle.yaml_read.proofs.steps.go_behind.Goals as goal

pub returns-in-Ok-clause-goes : goal.returns-in-Ok-clause-goes
returns-in-Ok-clause-goes g c =
    opened_on (seen_awaits c.args.awaits.now.items) (seen_awaits c.push.new.self.items) c.args.opened c.in-Some.awaited c.args.text c.in-Some.is
    (ap seen_awaits c.in-Ok.ensures.items ∙ await_more c.args.awaits.now.items c.in-Some.awaited)
