use Rattle.yaml_caller.proofs.Common.{seen_text, map}
use Rattle.yaml_base.specs.Seen.{seen_event}
use Rattle.yaml_caller.proofs.PairReads.{pair_emitted}
use Rattle.yaml_dump.proofs.Emissions.{keeps_each}
use Rattle.yaml_caller.proofs.pairs.emit_pair.Goals as goal

pub returns-in-Ok : goal.returns-in-Ok
returns-in-Ok g c =
    let before = c.args.emitter.now in
    let after = c.emit_each-answer.new.emitter in
    let events = map seen_event c.in-Ok.events.items in
    let both = pair_emitted (seen_text c.args.key) (seen_text c.args.value) events c.emit_each-answer.result before after c.in-Ok.ensures c.requires.made
    c.promised.ensures.promised c.emit_each-answer.ensures.emits in
    record { taken = (keeps_each before after events c.emit_each-answer.result c.emit_each-answer.ensures.emits).set.taken; reads = both.0; failed = both.1 }
