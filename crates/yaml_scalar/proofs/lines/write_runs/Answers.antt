use Rattle.yaml_scalar.proofs.Common.{chars, subst, CharacterKind, wrote_exit, Wrote, written_as, render_steps, limit_where}
use Rattle.yaml_scalar.proofs.{LinesWritten.wrote_runs, RunsWritten.standing_more, RunsWritten.standing_failed, StaysInLine.stays_unbroken}
use Rattle.yaml_pen.proofs.StillToWrite.{still_all}
use Rattle.yaml_scalar.proofs.{StaysInLine.lines_after, StaysInLine.line_stands, WholeRuns.run_unbroken}
use Rattle.yaml_scalar.proofs.lines.write_runs.Goals as goal

pub split_at-requires : goal.split_at-requires
split_at-requires g c = c.leading_verbatim_run-first.ensures.run.boundary

pub write_run-requires-clause-no_break : goal.write_run-requires-clause-no_break
write_run-requires-clause-no_break g c =
    let run = c.leading_verbatim_run-first.ensures in
    run_unbroken _ (stays_unbroken run.folds c.args.lines.quoted) run.run c.split_at.ensures.front

pub returns-in_err-write_run : goal.returns-in_err-write_run
returns-in_err-write_run g c =
    let lines = c.args.lines in
    let limit = limit_where lines.allow_breaks lines.width in
    wrote_exit c.from_residual.ensures
    (wrote_runs lines.quoted limit lines.indent (chars c.args.value.now)
    (standing_failed (lines_after lines.quoted limit lines.indent) c.split_at.result.1.now
    (line_stands lines.quoted limit lines.indent c.args.pen.now.cursor c.utf8.value c.leading_verbatim_run-first.ensures c.split_at.ensures.front)
    c.utf8.value c.leading_verbatim_run-first.ensures.run c.split_at.ensures.front c.split_at.ensures.back (still_all c.requires) c.in_err-write_run.ensures.written))

pub returns : goal.returns
returns g c =
    let lines = c.args.lines in
    let limit = limit_where lines.allow_breaks lines.width in
    let still =
    standing_more (lines_after lines.quoted limit lines.indent)
    (line_stands lines.quoted limit lines.indent c.args.pen.now.cursor c.utf8.value c.leading_verbatim_run-first.ensures c.split_at.ensures.front)
    c.utf8.value c.leading_verbatim_run-first.ensures.run c.split_at.ensures.front c.split_at.ensures.back (still_all c.requires) c.in_ok-write_run.ensures.written in
    wrote_runs lines.quoted limit lines.indent (chars c.args.value.now)
    (still.writes _ _
    (subst (λ (kind : CharacterKind). Wrote (render_steps (written_as lines.quoted) limit lines.indent kind (chars c.split_at.result.1.now)) c.write_run.new.self
    c.write_from.new.pen c.write_from.result)
    c.kind_of-before.ensures c.write_from.ensures))
