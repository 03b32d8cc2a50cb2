use Rattle.yaml_scalar.proofs.Common.{refl, true, Cursor, wrote_changing, wrote_exit, wrote_failed_as}
use Rattle.yaml_scalar.specs.BlockSteps.{render_broken}
use Rattle.yaml_scalar.proofs.block_lines.write_broken.Goals as goal

pub returns-in_err-write_break : goal.returns-in_err-write_break
returns-in_err-write_break g c = wrote_exit c.from_residual.ensures (wrote_failed_as (render_broken c.args.character) refl c.in_err-write_break.ensures.written)

pub returns : goal.returns
returns g c = wrote_changing (λ (cursor : Cursor). record cursor { indention = true }) c.in_ok-write_break.ensures.written c.set_indention.ensures
