use Rattle.yaml_scalar.proofs.Common.{refl, false, w32, to_z-of_z, Cursor, natural, wrote_changing, wrote_exit, wrote_failed_as}
use Rattle.yaml_scalar.specs.BlockSteps.{render_fold}
use Rattle.yaml_scalar.proofs.block_lines.write_fold.Goals as goal

pub returns-in_err-write_indent : goal.returns-in_err-write_indent
returns-in_err-write_indent g c =
    wrote_exit c.from_residual.ensures
    (wrote_failed_as (render_fold (natural c.args.indent)) refl
    (rw (to_z-of_z w32 c.args.indent c.ranges.indent) at c.in_err-write_indent.ensures.written))

pub returns : goal.returns
returns g c =
    wrote_changing (λ (cursor : Cursor). record cursor { indention = false })
    (rw (to_z-of_z w32 c.args.indent c.ranges.indent) at c.in_ok-write_indent.ensures.written) c.set_indention.ensures
