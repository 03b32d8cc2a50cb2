use Rattle.yaml_scalar.proofs.Common.{pos, ℤ, ◌≡◌, ◌≤ℤ◌, subst, sym, w32, to_z-of_z, IfOk-from_err}
use Rattle.yaml_base.proofs.Common.{chars}
use Rattle.yaml_base.specs.scalars.BlockHeader.{header_open_ended}
use Rattle.yaml_scalar.proofs.blocks.BlockBack.{block_exit}
use Rattle.yaml_scalar.proofs.block_header.write_block_scalar_hints.Goals as goal

pub write_hints-requires-clause-least : goal.write_hints-requires-clause-least
write_hints-requires-clause-least g c =
    subst (λ (n : ℤ). pos 2 ≤ℤ n) (sym (to_z-of_z w32 c.args.best_indent c.ranges.best_indent)) c.requires.least

pub write_hints-requires-clause-most : goal.write_hints-requires-clause-most
write_hints-requires-clause-most g c =
    subst (λ (n : ℤ). n ≤ℤ pos 9) (sym (to_z-of_z w32 c.args.best_indent c.ranges.best_indent)) c.requires.most

pub returns-in_err-write_hints-clause-written : goal.returns-in_err-write_hints-clause-written
returns-in_err-write_hints-clause-written g c =
    let wrote = rw (to_z-of_z w32 c.args.best_indent c.ranges.best_indent) at c.in_err-write_hints.ensures in
    block_exit c.from_residual.result c.from_residual.ensures wrote

pub returns-in_err-write_hints-clause-open_ended : goal.returns-in_err-write_hints-clause-open_ended
returns-in_err-write_hints-clause-open_ended g c =
    IfOk-from_err c.from_residual.result (λ (open_ended : ℤ). open_ended ≡ pos (header_open_ended (chars c.args.value.now))) c.from_residual.ensures.0

pub returns-clause-written : goal.returns-clause-written
returns-clause-written g c = rw (to_z-of_z w32 c.args.best_indent c.ranges.best_indent) at c.in_ok-write_hints.ensures

pub write_hints-requires-clause-ready : goal.write_hints-requires-clause-ready
write_hints-requires-clause-ready g c = c.requires.ready
