use Rattle.yaml_scalar.proofs.Common.{chars, false, refl, Cursor, plain_body, wrote_changing, wrote_exit, wrote_failed_as, limit_where}
use Rattle.yaml_scalar.proofs.LinesWritten.{wrote_unquoted}
use Rattle.yaml_scalar.proofs.plain.write_body.Goals as goal

pub returns-in_err-write_lines : goal.returns-in_err-write_lines
returns-in_err-write_lines g c =
    let limit = limit_where c.args.lines.allow_breaks c.args.lines.width in
    wrote_exit c.from_residual.ensures
    (wrote_failed_as (plain_body limit c.args.lines.indent (chars c.args.value.now)) refl
    (wrote_unquoted c.args.lines.quoted limit c.args.lines.indent (chars c.args.value.now) c.requires.plain c.in_err-write_lines.ensures))

pub returns : goal.returns
returns g c =
    let limit = limit_where c.args.lines.allow_breaks c.args.lines.width in
    wrote_changing (λ (cursor : Cursor). record cursor { indention = false })
    (wrote_changing (λ (cursor : Cursor). record cursor { whitespace = false })
    (wrote_unquoted c.args.lines.quoted limit c.args.lines.indent (chars c.args.value.now) c.requires.plain c.in_ok-write_lines.ensures)
    c.set_whitespace.ensures)
    c.set_indention.ensures
