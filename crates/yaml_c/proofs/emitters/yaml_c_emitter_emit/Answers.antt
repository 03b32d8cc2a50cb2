use Rattle.yaml_c.proofs.Common.{Some, ℤ, ◌≡◌, ◌∙◌, rules, subst, sym, w32, of_z, to_z, event_recorded}
use Rattle.yaml_c.proofs.KeptLemmas.{changed, while_closed, while_open}
use Rattle.yaml_c.specs.Kept.{GivesRecord, OnEvents, UnlessClosed}
use Rattle.yaml_c.proofs.emitters.yaml_c_emitter_emit.Goals as goal

pub returns-in-Some : goal.returns-in-Some
returns-in-Some c =
    let read = event_recorded c.args.texts.now c.args.directives.now c.args.event.now in
    let before = c.deref_mut.result.now in
    let after = c.give_to-giving.new.kept in
    let report = c.tell_giving.new.report in
    let status = to_z w32 (of_z w32 c.tell_giving.result) in
    let fits : status ≡ c.tell_giving.result = search rules in
    let put : c.put.new.self.state ≡ Some after = search rules in
    let taken : Some before ≡ c.args.emitter.now.state = search rules in
    let gave = c.in-Some.ensures.gave in
    let given : GivesRecord read c.tell_giving.result report before.emitter after.emitter =
    c.tell_giving.ensures read before.emitter after.emitter gave.1 in
    changed (OnEvents (UnlessClosed status report (GivesRecord read status report))) c.args.emitter.now.state c.put.new.self.state before after
    taken put c.give_to-giving.ensures.output (search rules) (
      while_open status report (GivesRecord read status report) before.emitter after.emitter gave.0
          (subst (λ (returned : ℤ). GivesRecord read returned report before.emitter after.emitter) (sym fits) given),
      c.give_to-giving.ensures.place,
    )

pub returns-in-None : goal.returns-in-None
returns-in-None c =
    let read = event_recorded c.args.texts.now c.args.directives.now c.args.event.now in
    let before = c.deref_mut.result.now in
    let after = c.give_to-giving.new.kept in
    let report = c.tell_closed.new.report in
    let status = to_z w32 (of_z w32 c.tell_closed.result) in
    let fits : status ≡ c.tell_closed.result = search rules in
    let put : c.put.new.self.state ≡ Some after = search rules in
    let taken : Some before ≡ c.args.emitter.now.state = search rules in
    let closed = c.in-None.ensures.closed in
    let tells = c.tell_closed.ensures in
    changed (OnEvents (UnlessClosed status report (GivesRecord read status report))) c.args.emitter.now.state c.put.new.self.state before after
    taken put c.give_to-giving.ensures.output (search rules) (
      while_closed status report (GivesRecord read status report) before.emitter after.emitter closed.0 (fits ∙ tells.0, tells.1) closed.1,
      c.give_to-giving.ensures.place,
    )
