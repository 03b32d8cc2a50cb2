use Rattle.yaml_scalar.proofs.Common.{refl, false, Cursor, wrote_changing, wrote_exit, wrote_failed_as}
use Rattle.yaml_scalar.specs.BlockSteps.{render_content}
use Rattle.yaml_scalar.proofs.block_lines.write_content.Goals as goal

pub returns-in_err-write_char : goal.returns-in_err-write_char
returns-in_err-write_char g c = wrote_exit c.from_residual.ensures (wrote_failed_as (render_content c.args.character) refl c.in_err-write_char.ensures.written)

pub returns : goal.returns
returns g c = wrote_changing (λ (cursor : Cursor). record cursor { indention = false }) c.in_ok-write_char.ensures.written c.set_indention.ensures
