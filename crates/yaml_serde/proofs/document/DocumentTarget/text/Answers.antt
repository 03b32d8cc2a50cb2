use Rattle.yaml_serde.proofs.Common.{chars, Result, subst}
use Rattle.yaml_serde.{proofs.Giving.stands_given, specs.Documents.text_call}
use Rattle.yaml_serde.proofs.Handing.{gives_and_sends}
use Rattle.yaml_base.specs.declared.errors.yaml_error_t.{yaml_error_t}
use Rattle.yaml_writer.specs.Writing.{Gives, text_event}
use Rattle.yaml_serde.proofs.document.DocumentTarget.text.Goals as goal

pub invariant_of-self : goal.invariant_of-self
invariant_of-self g c =
    let self = c.args.self.now in
    let answer = c.text-given in
    record {
      stands = stands_given _ _ answer.result (text_call self.writer.now (chars c.args.value.now)) answer.ensures self.stands;
      lent = self.lent;
      form = self.form;
    }

pub returns : goal.returns
returns g c =
    let self = c.args.self.now in
    let called = c.text-given in
    let settled = c.settle in
    let event = text_event self.writer.now (chars c.args.value.now) in
    gives_and_sends g.W.Write.contents self.outlet settled.new.self.outlet self.writer.now called.new.self settled.new.self.writer.now
    event called.result settled.result
    (λ ok. subst (λ (answer : Result (Unit {0}) yaml_error_t). Gives self.writer.now event answer called.new.self) ok called.ensures)
    settled.ensures.given settled.ensures.hands
