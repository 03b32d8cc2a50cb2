use Rattle.yaml_scalar.proofs.Common.{if◌then◌else◌, [], ◌∷◌, indentation, wrote_text_then, wrote_text_failed, wrote_exit}
use Rattle.yaml_scalar.proofs.lines.write_line_break.Goals as goal

pub returns-in_err-write_extra_break : goal.returns-in_err-write_extra_break
returns-in_err-write_extra_break g c =
    wrote_exit c.from_residual.ensures
    (wrote_text_failed (c.args.character ∷ (if c.args.goes_on then [] else indentation c.args.indent)) c.in_err-write_extra_break.ensures)

pub returns-in_err-write_break : goal.returns-in_err-write_break
returns-in_err-write_break g c =
    wrote_exit c.from_residual-in_err-write_break.ensures
    (wrote_text_then c.in_ok-write_extra_break.ensures
    (wrote_text_failed (if c.args.goes_on then [] else indentation c.args.indent) c.in_err-write_break.ensures.written))

pub returns-then-goes_on : goal.returns-then-goes_on
returns-then-goes_on g c =
    rw c.if-goes_on.true
    (wrote_text_then c.in_ok-write_extra_break.ensures (wrote_text_then c.in_ok-write_break.ensures.written c.write_nothing.ensures))

pub returns-else-goes_on : goal.returns-else-goes_on
returns-else-goes_on g c =
    rw c.if-goes_on.false
    (wrote_text_then c.in_ok-write_extra_break.ensures (wrote_text_then c.in_ok-write_break.ensures.written c.write_indentation.ensures))
