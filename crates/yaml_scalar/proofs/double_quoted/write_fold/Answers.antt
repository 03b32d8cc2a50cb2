use Rattle.yaml_scalar.proofs.Common.{w32, to_z-of_z, render_text, space_kept, wrote_then, wrote_failed, wrote_exit}
use Rattle.yaml_base.proofs.Common.{chars}
use Rattle.yaml_scalar.proofs.double_quoted.write_fold.Goals as goal

pub returns-in_err-write_indent : goal.returns-in_err-write_indent
returns-in_err-write_indent g c =
    wrote_exit c.from_residual.ensures
    (wrote_failed (render_text (space_kept (chars c.args.rest.now)))
    (rw (to_z-of_z w32 c.args.indent c.ranges.indent) at c.in_err-write_indent.ensures.written))

pub returns : goal.returns
returns g c =
    wrote_then (rw (to_z-of_z w32 c.args.indent c.ranges.indent) at c.in_ok-write_indent.ensures.written) c.write_backslash_before_space.ensures
