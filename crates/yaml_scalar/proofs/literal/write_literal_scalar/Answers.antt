use Rattle.yaml_scalar.proofs.Common.{pos, ℤ, false, ◌≡◌, ◌≤ℤ◌, subst, sym, rules, w32, to_z-of_z, FitsSigned as SFits, IfOk-from_err, read_block, natural}
use Rattle.yaml_scalar.proofs.Common.{ReadsBack, render_literal, wrote_then, wrote_failed, wrote_as, lines_from, limit_of}
use Rattle.yaml_base.proofs.Common.{chars}
use Rattle.yaml_base.specs.{scalars.BlockHeader.header_open_ended, Settings.largest_i32}
use Rattle.yaml_scalar.proofs.blocks.BlockBack.{indents, block_exit, literal_back}
use Rattle.yaml_scalar.{proofs.blocks.BlockWrites.some-literal, specs.declared.block_lines.Place.TheVariants.LineStart}
use Rattle.yaml_scalar.proofs.literal.write_literal_scalar.Goals as goal

pub write_header-requires-clause-ready : goal.write_header-requires-clause-ready
write_header-requires-clause-ready g c = c.requires.ready

pub write_header-requires-clause-least : goal.write_header-requires-clause-least
write_header-requires-clause-least g c =
    subst (λ (n : ℤ). pos 2 ≤ℤ n) (sym (to_z-of_z w32 c.args.best_indent c.ranges.best_indent)) c.requires.least

pub write_header-requires-clause-most : goal.write_header-requires-clause-most
write_header-requires-clause-most g c =
    subst (λ (n : ℤ). n ≤ℤ pos 9) (sym (to_z-of_z w32 c.args.best_indent c.ranges.best_indent)) c.requires.most

pub returns-in_err-write_header-clause-written : goal.returns-in_err-write_header-clause-written
returns-in_err-write_header-clause-written g c =
    let fits : SFits w32 c.args.best_indent = c.ranges.best_indent in
    let n = natural c.args.indent in
    let best = natural c.args.best_indent in
    let value = chars c.args.value.now in
    let limit = limit_of (pos largest_i32) in
    let header = simp to_z-of_z at c.in_err-write_header.ensures in
    block_exit c.from_residual.result c.from_residual.ensures
    (wrote_as (render_literal n best value) (some-literal limit n best value c.args.pen.now.cursor c.requires.some)
    (wrote_failed (lines_from false limit n LineStart value) header))

pub returns-in_err-write_header-clause-open_ended : goal.returns-in_err-write_header-clause-open_ended
returns-in_err-write_header-clause-open_ended g c =
    IfOk-from_err c.from_residual.result (λ (open_ended : ℤ). open_ended ≡ pos (header_open_ended (chars c.args.value.now))) c.from_residual.ensures.0

pub returns-in_err-write_header-clause-reads : goal.returns-in_err-write_header-clause-reads
returns-in_err-write_header-clause-reads g c charset allowed column enclosing =
    IfOk-from_err c.from_residual.result
    (λ _. ReadsBack (read_block charset.breaks12 column) (chars c.args.value.now) c.args.pen.now.text c.write_header.new.pen.text) c.from_residual.ensures.0

pub returns-in_err-write_lines-clause-written : goal.returns-in_err-write_lines-clause-written
returns-in_err-write_lines-clause-written g c =
    let fits : SFits w32 c.args.best_indent = c.ranges.best_indent in
    let deep : SFits w32 c.args.indent = c.ranges.indent in
    let wide : SFits w32 (pos largest_i32) = search rules in
    let n = natural c.args.indent in
    let best = natural c.args.best_indent in
    let value = chars c.args.value.now in
    let limit = limit_of (pos largest_i32) in
    let header = simp to_z-of_z at c.in_ok-write_header.ensures in
    let lines = simp to_z-of_z at c.in_err-write_lines.ensures in
    block_exit c.from_residual-in_err-write_lines.result c.from_residual-in_err-write_lines.ensures
    (wrote_as (render_literal n best value) (some-literal limit n best value c.args.pen.now.cursor c.requires.some) (wrote_then header lines))

pub returns-in_err-write_lines-clause-open_ended : goal.returns-in_err-write_lines-clause-open_ended
returns-in_err-write_lines-clause-open_ended g c =
    IfOk-from_err c.from_residual-in_err-write_lines.result (λ (open_ended : ℤ). open_ended ≡ pos (header_open_ended (chars c.args.value.now)))
    c.from_residual-in_err-write_lines.ensures.0

pub returns-in_err-write_lines-clause-reads : goal.returns-in_err-write_lines-clause-reads
returns-in_err-write_lines-clause-reads g c charset allowed column enclosing =
    IfOk-from_err c.from_residual-in_err-write_lines.result
    (λ _. ReadsBack (read_block charset.breaks12 column) (chars c.args.value.now) c.args.pen.now.text c.write_lines.new.pen.text)
    c.from_residual-in_err-write_lines.ensures.0

pub returns-clause-written : goal.returns-clause-written
returns-clause-written g c =
    let fits : SFits w32 c.args.best_indent = c.ranges.best_indent in
    let deep : SFits w32 c.args.indent = c.ranges.indent in
    let wide : SFits w32 (pos largest_i32) = search rules in
    let n = natural c.args.indent in
    let best = natural c.args.best_indent in
    let value = chars c.args.value.now in
    let limit = limit_of (pos largest_i32) in
    let header = simp to_z-of_z at c.in_ok-write_header.ensures in
    let lines = simp to_z-of_z at c.in_ok-write_lines.ensures in
    wrote_as (render_literal n best value) (some-literal limit n best value c.args.pen.now.cursor c.requires.some) (wrote_then header lines)

pub returns-clause-reads : goal.returns-clause-reads
returns-clause-reads g c charset allowed column enclosing =
    literal_back charset (chars c.args.value.now) allowed (natural c.args.indent) (natural c.args.best_indent)
    (indents c.args.indent c.args.best_indent c.requires.least c.requires.most c.requires.within) column enclosing (returns-clause-written g c)
