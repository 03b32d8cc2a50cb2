use Rattle.yaml_scalar.proofs.Common.{◌==◌, Bool, false, not, true, ◌&&◌, line_feed, chars, ap, sym, ◌∙◌, indentation, wrote_exit, wrote_text_failed}
use Rattle.yaml_scalar.proofs.Common.{wrote_text_then}
use Rattle.yaml_scalar.proofs.LineCharacters.{space_written, break_written, other_written}
use Rattle.yaml_scalar.proofs.lines.write_step.Goals as goal

pub returns-in_err-put_break-in-Space : goal.returns-in_err-put_break-in-Space
returns-in_err-put_break-in-Space g c =
    let lines = c.args.lines in
    wrote_exit c.from_residual.ensures
    (space_written lines.quoted _ lines.indent c.args.before c.args.character (chars c.args.rest.now) true (sym c.in-Space.is ∙ c.kind_of.ensures)
    (sym c.if-is_fold.true ∙ c.is_fold.ensures) (wrote_text_failed (indentation lines.indent) c.in_err-put_break-in-Space.ensures.written))

pub returns-in_ok-put_break-in-Space : goal.returns-in_ok-put_break-in-Space
returns-in_ok-put_break-in-Space g c =
    let lines = c.args.lines in
    space_written lines.quoted _ lines.indent c.args.before c.args.character (chars c.args.rest.now) true (sym c.in-Space.is ∙ c.kind_of.ensures)
    (sym c.if-is_fold.true ∙ c.is_fold.ensures) (wrote_text_then c.in_ok-put_break-in-Space.ensures.written c.write_indentation.ensures)

pub returns-else-is_fold : goal.returns-else-is_fold
returns-else-is_fold g c =
    let lines = c.args.lines in
    space_written lines.quoted _ lines.indent c.args.before c.args.character (chars c.args.rest.now) false (sym c.in-Space.is ∙ c.kind_of.ensures)
    (sym c.if-is_fold.false ∙ c.is_fold.ensures) c.put.ensures.written

pub returns-in-Break : goal.returns-in-Break
returns-in-Break g c =
    let lines = c.args.lines in
    break_written lines.quoted _ lines.indent c.args.before c.args.character (chars c.args.rest.now) _ _ (sym c.in-Break.is ∙ c.kind_of.ensures)
    (ap (λ (same : Bool). c.args.character == line_feed && not same) c.is_same_kind.ensures) c.begins_kind-goes_on.ensures c.write_line_break.ensures

pub returns-in-Other : goal.returns-in-Other
returns-in-Other g c =
    let lines = c.args.lines in
    other_written lines.quoted _ lines.indent c.args.before c.args.character (chars c.args.rest.now) (sym c.in-Other.is ∙ c.kind_of.ensures)
    c.write_other.ensures
