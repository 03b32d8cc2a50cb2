use Rattle.yaml_emitter.proofs.Common.{render_document_end, seen_effective, wrote_as, wrote_exit}
use Rattle.yaml_emitter.proofs.{pieces.WritingPieces.wrote_document_end, standing.LastFlushes.wrote_flushed}
use Rattle.yaml_emitter.proofs.process.flush_document_end.Goals as goal

pub returns-in_err-write_document_atoms-clause-written : goal.returns-in_err-write_document_atoms-clause-written
returns-in_err-write_document_atoms-clause-written g c = λ open_ended.
    wrote_exit c.from_residual.ensures
    (wrote_document_end c.args.implicit open_ended
    (wrote_as (render_document_end c.args.implicit)
    (c.document_end_atoms.ensures.rendered (seen_effective c.args.settings.now) c.args.pen.now.cursor) c.in_err-write_document_atoms.ensures))

pub returns-clause-written : goal.returns-clause-written
returns-clause-written g c = λ open_ended.
    wrote_flushed
    (wrote_document_end c.args.implicit open_ended
    (wrote_as (render_document_end c.args.implicit)
    (c.document_end_atoms.ensures.rendered (seen_effective c.args.settings.now) c.args.pen.now.cursor) c.in_ok-write_document_atoms.ensures))
    c.flush.ensures.flushed
