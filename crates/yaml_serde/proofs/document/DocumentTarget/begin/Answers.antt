use Rattle.yaml_serde.proofs.Giving.{stands_begun}
use Rattle.yaml_serde.proofs.Common.{Bool, Form, Result, ap, arith, subst, ◌≡◌, length, ◌<◌}
use Rattle.std.specs.Prelude.{◌+◌}
use Rattle.yaml_serde.proofs.Handing.{gives_and_sends}
use Rattle.yaml_serde.specs.Forms.{begin_event}
use Rattle.yaml_base.specs.declared.errors.yaml_error_t.{yaml_error_t}
use Rattle.yaml_writer.specs.Writing.{Begins, with_collection}
use Rattle.yaml_serde.proofs.document.DocumentTarget.begin.Goals as goal

pub invariant_of-self-2 : goal.invariant_of-self-2
invariant_of-self-2 g c =
    let self = c.args.self.now in
    let outside = g.G.Given.outside in
    let kind = c.args.kind in
    let begun = c.start-begun in
    let room : length self.writer.now.levels < self.base + outside.form.depth = omega (arith, ap (λ (form : Form). form.depth) self.form) in
    record {
      stands = stands_begun _ _ begun.result kind room
          (subst (λ (in_flow : Bool). Begins kind self.writer.now (begin_event in_flow kind self.writer.now) begun.result begun.new.writer)
          (ap (λ (form : Form). form.flow) self.form) begun.ensures) self.stands;
      lent = self.lent;
      form = self.form;
    }

pub returns-clause-begun : goal.returns-clause-begun
returns-clause-begun g c =
    let self = c.args.self.now in
    let kind = c.args.kind in
    let called = c.start-begun in
    let settled = c.settle in
    let event = begin_event self.settings.flow kind self.writer.now in
    gives_and_sends g.W.Write.contents self.outlet settled.new.self.outlet (with_collection self.writer.now kind) called.new.writer settled.new.self.writer.now
    event called.result settled.result
    (λ ok. subst (λ (answer : Result (Unit {0}) yaml_error_t). Begins kind self.writer.now event answer called.new.writer) ok called.ensures)
    settled.ensures.given settled.ensures.hands
