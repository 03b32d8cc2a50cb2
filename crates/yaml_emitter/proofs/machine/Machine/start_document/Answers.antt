use Rattle.yaml_emitter.proofs.Common.{Ok, at_node, option_map, option_and_then, map, ap, subst, sym, ◌∙◌, DocumentStart, document_start, seen_version}
use Rattle.yaml_emitter.proofs.Common.{seen_directive, version_fault, directives_fault, some_handle_breaks, machine_state, Processed, MachineState}
use Rattle.yaml_emitter.proofs.{events_done.ProcessedBy.processed_exit, pieces.WritingNames.sound_handles, pieces.WritingNames.sound_in_force}
use Rattle.yaml_emitter.proofs.events_done.DocumentsDone.{document_refused, document_start_cut, document_begun, none_behind}
use Rattle.yaml_emitter.proofs.events_done.KeptInside.{kept_prefix, seen_without, seen_at}
use Rattle.yaml_emitter.specs.declared.stage.Stage.TheVariants.{Document}
use Rattle.yaml_emitter.proofs.machine.Machine.start_document.Goals as goal

pub returns-in_err-directives : goal.returns-in_err-directives
returns-in_err-directives g c = λ empty.
    let start : DocumentStart = record {
      version = option_map seen_version c.args.version;
      directives = map seen_directive c.args.own.now;
      implicit = c.args.implicit;
    } in
    let same = seen_without c.self.inside c.replace-before.new.dest c.in-Document.first
    (seen_at c.self.inside (Document c.in-Document.first) c.in-Document.is)
    ∙ c.self.view_is in
    subst (λ (s : MachineState). Processed (document_start start) empty c.args.self.now s c.from_residual.result) (sym same)
    (processed_exit (document_start start) empty c.args.self.now c.args.self.now c.in_err-directives.field-0.0 c.from_residual.result c.from_residual.ensures
    (document_refused empty c.args.self.now c.in-Document.first start c.in_err-directives.field-0.0
    (sym (ap (λ (s : MachineState). s.stage) c.self.view_is) ∙ seen_at c.self.inside (Document c.in-Document.first) c.in-Document.is)
    c.in_err-directives.ensures.refusal))

pub write_document_start-requires-clause-handles : goal.write_document_start-requires-clause-handles
write_document_start-requires-clause-handles g c =
    let own = map seen_directive c.args.own.now in
    sound_handles own
    (none_behind (option_and_then version_fault (option_map seen_version c.args.version)) (directives_fault own)
    (sym (c.in_ok-directives.ensures.refusal (λ h. cc))))

pub returns-in_err-write_document_start : goal.returns-in_err-write_document_start
returns-in_err-write_document_start g c = λ empty.
    let start : DocumentStart = record {
      version = option_map seen_version c.args.version;
      directives = map seen_directive c.args.own.now;
      implicit = c.args.implicit;
    } in
    let event = document_start start in
    let before : MachineState = machine_state c.self.inside in
    let page = c.write_document_start.new.pen in
    let answer = c.from_residual-in_err-write_document_start.result in
    let at = seen_at c.self.inside (Document c.in-Document.first) c.in-Document.is in
    let error = c.in_err-write_document_start.field-0.0 in
    subst (λ (s : MachineState). Processed event empty c.args.self.now (record s { page = page }) answer)
    (sym (seen_without c.self.inside c.replace-before.new.dest c.in-Document.first at))
    (subst (λ (s : MachineState). Processed event empty s (record before { page = page }) answer) c.self.view_is
    (processed_exit event empty before (record before { page = page }) error answer c.from_residual-in_err-write_document_start.ensures
    (document_start_cut empty before c.in-Document.first start page error at (sym (c.in_ok-directives.ensures.refusal (λ h. cc)))
    c.in_err-write_document_start.ensures)))

pub invariant_of-self-2 : goal.invariant_of-self-2
invariant_of-self-2 g c =
    let own = map seen_directive c.args.own.now in
    kept_prefix c.self.inside c.write_document_start.new.pen _ c.in_ok-directives.directives c.clear.new.self _ c.self.invariant
    (ap some_handle_breaks c.in_ok-directives.ensures.in_force
    ∙ sound_in_force own
    (sound_handles own
    (none_behind (option_and_then version_fault (option_map seen_version c.args.version)) (directives_fault own)
    (sym (c.in_ok-directives.ensures.refusal (λ h. cc))))))
    c.write_document_start.ensures.ready

pub returns : goal.returns
returns g c = λ empty.
    let start : DocumentStart = record {
      version = option_map seen_version c.args.version;
      directives = map seen_directive c.args.own.now;
      implicit = c.args.implicit;
    } in
    let after = record (machine_state c.self.inside) {
      stage = at_node c.in_ok-directives.directives c.clear.new.self;
      open_ended = 0;
      page = c.write_document_start.new.pen;
    } in
    subst (λ (s : MachineState). Processed (document_start start) empty s after (Ok tt)) c.self.view_is
    (document_begun empty
    (machine_state c.self.inside) c.in-Document.first start c.write_document_start.new.pen c.in_ok-directives.directives c.clear.new.self
    (seen_at c.self.inside (Document c.in-Document.first) c.in-Document.is)
    (sym (c.in_ok-directives.ensures.refusal (λ h. cc))) c.in_ok-write_document_start.ensures c.in_ok-directives.ensures.in_force c.clear.ensures)
