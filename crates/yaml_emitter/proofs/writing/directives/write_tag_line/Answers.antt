use Rattle.yaml_emitter.proofs.Common.{chars, new_line, seen_effective, wrote_then, wrote_failed, wrote_as, wrote_exit}
use Rattle.yaml_emitter.specs.WrittenPieces.{render_tag_words}
use Rattle.yaml_emitter.proofs.writing.directives.write_tag_line.Goals as goal

pub returns-in_err-write_document_atoms : goal.returns-in_err-write_document_atoms
returns-in_err-write_document_atoms g c =
    wrote_exit c.from_residual.ensures
    (wrote_failed (new_line 0)
    (wrote_as (render_tag_words c.args.settings.now.portable (record { handle = chars c.args.handle.now; prefix = chars c.args.prefix.now }))
    (c.tag_directive_atoms.ensures.rendered (seen_effective c.args.settings.now) c.args.pen.now.cursor) c.in_err-write_document_atoms.ensures))

pub returns : goal.returns
returns g c =
    wrote_then
    (wrote_as (render_tag_words c.args.settings.now.portable (record { handle = chars c.args.handle.now; prefix = chars c.args.prefix.now }))
    (c.tag_directive_atoms.ensures.rendered (seen_effective c.args.settings.now) c.args.pen.now.cursor) c.in_ok-write_document_atoms.ensures)
    c.write_document_atoms-2.ensures
