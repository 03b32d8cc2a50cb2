use Rattle.yaml_scalar.proofs.Common.{wrote_then, wrote_failed, wrote_exit}
use Rattle.yaml_scalar.specs.BlockSteps.{render_broken}
use Rattle.yaml_scalar.proofs.block_lines.write_end.Goals as goal

pub returns-then-not-twice : goal.returns-then-not-twice
returns-then-not-twice g c = rw c.if-not-twice.true c.write_broken.ensures

pub returns-in_err-write_break : goal.returns-in_err-write_break
returns-in_err-write_break g c =
    rw c.if-not-twice.false (wrote_exit c.from_residual.ensures (wrote_failed (render_broken c.args.character) c.in_err-write_break.ensures.written))

pub returns : goal.returns
returns g c = rw c.if-not-twice.false (wrote_then c.in_ok-write_break.ensures.written c.write_broken-2.ensures)
