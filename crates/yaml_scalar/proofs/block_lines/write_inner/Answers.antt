use Rattle.yaml_scalar.proofs.Common.{if◌then◌else◌, Bool, chars, ap, sym, ◌∙◌, rules, w32, to_z-of_z, FitsSigned, wrote_as, wrote_then, wrote_failed, natural}
use Rattle.yaml_scalar.proofs.Common.{wrote_exit, limit_of, render_content, render_inner}
use Rattle.yaml_scalar.specs.{BlockSteps.render_fold, declared.block_lines.Place.TheVariants.Folding}
use Rattle.yaml_scalar.proofs.block_lines.write_inner.Goals as goal

pub returns-in_err-write_indent-in-LineStart : goal.returns-in_err-write_indent-in-LineStart
returns-in_err-write_indent-in-LineStart g c =
    let indent = c.args.lines.indent in
    let fits : FitsSigned w32 indent = search rules in
    let line = rw (to_z-of_z w32 indent fits) at c.in_err-write_indent-in-LineStart.ensures.written in
    rw c.in-LineStart.is (wrote_exit c.from_residual.ensures (wrote_failed (render_content c.args.character) line))

pub returns-in_ok-write_indent-in-LineStart : goal.returns-in_ok-write_indent-in-LineStart
returns-in_ok-write_indent-in-LineStart g c =
    let indent = c.args.lines.indent in
    let fits : FitsSigned w32 indent = search rules in
    let line = rw (to_z-of_z w32 indent fits) at c.in_ok-write_indent-in-LineStart.ensures.written in
    rw c.in-LineStart.is (wrote_then line c.write_content.ensures)

pub returns-then-folds : goal.returns-then-folds
returns-then-folds g c =
    let lines = c.args.lines in
    let n = natural lines.indent in
    let character = c.args.character in
    let cursor = c.args.pen.now.cursor in
    let indent_fits : FitsSigned w32 lines.indent = search rules in
    let width_fits : FitsSigned w32 lines.width = search rules in
    let same = rw (to_z-of_z w32 lines.width width_fits) at c.folds.ensures in
    rw c.in-Folding.is
    (wrote_as (render_inner (limit_of lines.width) n Folding character (chars c.args.rest.now))
    (ap (λ (b : Bool). if b then render_fold n cursor else render_content character cursor) (sym c.if-folds.true ∙ same))
    (rw (to_z-of_z w32 lines.indent indent_fits) at c.write_fold.ensures))

pub returns-else-folds : goal.returns-else-folds
returns-else-folds g c =
    let lines = c.args.lines in
    let n = natural lines.indent in
    let character = c.args.character in
    let cursor = c.args.pen.now.cursor in
    let width_fits : FitsSigned w32 lines.width = search rules in
    let same = rw (to_z-of_z w32 lines.width width_fits) at c.folds.ensures in
    rw c.in-Folding.is
    (wrote_as (render_inner (limit_of lines.width) n Folding character (chars c.args.rest.now))
    (ap (λ (b : Bool). if b then render_fold n cursor else render_content character cursor) (sym c.if-folds.false ∙ same))
    c.write_content-else-folds.ensures)

pub returns-in-Fixed : goal.returns-in-Fixed
returns-in-Fixed g c = rw c.in-Fixed.is c.write_content-in-Fixed.ensures
