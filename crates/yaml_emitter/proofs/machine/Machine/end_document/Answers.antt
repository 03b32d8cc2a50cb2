use Rattle.yaml_emitter.proofs.Common.{refl, document_end, machine_state}
use Rattle.yaml_emitter.proofs.events_done.{EventsDone.document_cut, EventsDone.document_ended, ProcessedBy.processed_exit}
use Rattle.yaml_emitter.proofs.events_done.KeptInside.{fits_ready, kept_writing, seen_at, behind_start}
use Rattle.yaml_emitter.specs.declared.stage.Stage.TheVariants.{DocumentEnd}
use Rattle.yaml_emitter.proofs.machine.Machine.end_document.Goals as goal

pub invariant_of-self : goal.invariant_of-self
invariant_of-self g c =
    kept_writing c.self.inside c.flush_document_end.new.pen c.self.inside.stage c.self.inside.frames c.self.inside.open_ended c.self.invariant
    (fits_ready (machine_state c.self.inside).stage c.flush_document_end.new.pen
    (behind_start (seen_at c.self.inside DocumentEnd c.in-DocumentEnd.is) refl)
    (c.in_err-flush_document_end.ensures.written 0).ready)

pub returns-in_err-flush_document_end : goal.returns-in_err-flush_document_end
returns-in_err-flush_document_end g c = λ empty.
    rw (← c.self.view_is)
    (processed_exit (document_end c.args.implicit) empty
    (machine_state c.self.inside) _ c.in_err-flush_document_end.field-0.0 c.from_residual.result c.from_residual.ensures
    (document_cut empty (machine_state c.self.inside) c.args.implicit c.flush_document_end.new.pen c.in_err-flush_document_end.field-0.0
    (seen_at c.self.inside DocumentEnd c.in-DocumentEnd.is)
    (c.in_err-flush_document_end.ensures.written (machine_state c.self.inside).open_ended)))

pub invariant_of-self-2 : goal.invariant_of-self-2
invariant_of-self-2 g c =
    kept_writing c.self.inside c.flush_document_end.new.pen _ c.self.inside.frames c.after_document-self-inside.result c.self.invariant
    (c.in_ok-flush_document_end.ensures.written 0).ready

pub returns : goal.returns
returns g c = λ empty.
    rw (← c.self.view_is)
    (document_ended empty (machine_state c.self.inside) c.args.implicit c.flush_document_end.new.pen _
    (seen_at c.self.inside DocumentEnd c.in-DocumentEnd.is)
    (c.in_ok-flush_document_end.ensures.written (machine_state c.self.inside).open_ended) c.after_document-self-inside.ensures
    c.in_ok-flush_document_end.ensures.flushed_whole)
