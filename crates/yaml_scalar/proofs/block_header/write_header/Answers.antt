use Rattle.yaml_scalar.proofs.Common.{pos, true, ℤ, refl, Cursor, wrote_changing, wrote_failed_as, ◌≤ℤ◌, subst, sym, w32, to_z-of_z, render_hints, wrote_then}
use Rattle.yaml_scalar.proofs.Common.{wrote_failed, wrote_as, wrote_exit, natural, is_folded, separated_header, header_end}
use Rattle.yaml_base.proofs.Common.{chars}
use Rattle.yaml_scalar.proofs.blocks.BlockWrites.{header-steps}
use Rattle.yaml_scalar.proofs.block_header.write_header.Goals as goal

pub returns-in_err-put_indicator : goal.returns-in_err-put_indicator
returns-in_err-put_indicator g c =
    let n = natural c.args.best_indent in
    let value = chars c.args.value.now in
    let block_indicator = rw (c.spaced.ensures, c.block_indicator.ensures) at c.in_err-put_indicator.ensures.written in
    wrote_exit c.from_residual.ensures
    (wrote_as (separated_header (is_folded c.args.style) n value) (header-steps (is_folded c.args.style) n value c.args.pen.now.cursor)
    (wrote_failed header_end (wrote_failed (render_hints n value) block_indicator)))

pub returns-in_err-write_hints : goal.returns-in_err-write_hints
returns-in_err-write_hints g c =
    let n = natural c.args.best_indent in
    let value = chars c.args.value.now in
    let block_indicator = rw (c.spaced.ensures, c.block_indicator.ensures) at c.in_ok-put_indicator.ensures.written in
    let hints = rw (to_z-of_z w32 c.args.best_indent c.ranges.best_indent) at c.in_err-write_hints.ensures in
    wrote_exit c.from_residual-in_err-write_hints.ensures
    (wrote_as (separated_header (is_folded c.args.style) n value) (header-steps (is_folded c.args.style) n value c.args.pen.now.cursor)
    (wrote_failed header_end (wrote_then block_indicator hints)))

pub returns-in_err-put_break : goal.returns-in_err-put_break
returns-in_err-put_break g c =
    let n = natural c.args.best_indent in
    let value = chars c.args.value.now in
    let block_indicator = rw (c.spaced.ensures, c.block_indicator.ensures) at c.in_ok-put_indicator.ensures.written in
    let hints = rw (to_z-of_z w32 c.args.best_indent c.ranges.best_indent) at c.in_ok-write_hints.ensures in
    wrote_exit c.from_residual-in_err-put_break.ensures
    (wrote_as (separated_header (is_folded c.args.style) n value) (header-steps (is_folded c.args.style) n value c.args.pen.now.cursor)
    (wrote_then (wrote_then block_indicator hints) (wrote_failed_as header_end refl c.in_err-put_break.ensures.written)))

pub returns : goal.returns
returns g c =
    let n = natural c.args.best_indent in
    let value = chars c.args.value.now in
    let block_indicator = rw (c.spaced.ensures, c.block_indicator.ensures) at c.in_ok-put_indicator.ensures.written in
    let hints = rw (to_z-of_z w32 c.args.best_indent c.ranges.best_indent) at c.in_ok-write_hints.ensures in
    wrote_as (separated_header (is_folded c.args.style) n value) (header-steps (is_folded c.args.style) n value c.args.pen.now.cursor)
    (wrote_then (wrote_then block_indicator hints)
    (wrote_changing (λ (cursor : Cursor). record cursor { indention = true })
    (wrote_changing (λ (cursor : Cursor). record cursor { whitespace = true }) c.in_ok-put_break.ensures.written c.set_whitespace.ensures)
    c.set_indention.ensures))

pub put_indicator-requires-clause-ready : goal.put_indicator-requires-clause-ready
put_indicator-requires-clause-ready g c = c.requires.ready

pub write_hints-requires-clause-ready : goal.write_hints-requires-clause-ready
write_hints-requires-clause-ready g c = c.in_ok-put_indicator.ensures.written.ready

pub write_hints-requires-clause-least : goal.write_hints-requires-clause-least
write_hints-requires-clause-least g c =
    subst (λ (n : ℤ). pos 2 ≤ℤ n) (sym (to_z-of_z w32 c.args.best_indent c.ranges.best_indent)) c.requires.least

pub write_hints-requires-clause-most : goal.write_hints-requires-clause-most
write_hints-requires-clause-most g c =
    subst (λ (n : ℤ). n ≤ℤ pos 9) (sym (to_z-of_z w32 c.args.best_indent c.ranges.best_indent)) c.requires.most

pub put_break-requires : goal.put_break-requires
put_break-requires g c = record { ready = c.in_ok-write_hints.ensures.ready }
