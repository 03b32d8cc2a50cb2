use Rattle.yaml_scalar.proofs.Common.{if◌then◌else◌, Bool, chars, ap, ◌∙◌, wrote_as, natural, limit_of, render_inner, is_doubled, render_block_break}
use Rattle.yaml_scalar.proofs.Common.{render_step}
use Rattle.yaml_scalar.proofs.block_lines.write_step.Goals as goal

pub returns-then-is_break : goal.returns-then-is_break
returns-then-is_break g c =
    let limit = limit_of c.args.lines.width in
    let n = natural c.args.lines.indent in
    let character = c.args.character in
    let rest = chars c.args.rest.now in
    let cursor = c.args.pen.now.cursor in
    wrote_as (render_step limit n c.args.place character rest)
    (ap (λ (twice : Bool). render_block_break twice character cursor) c.is_doubled.ensures
    ∙ ap (λ (b : Bool). if b then render_block_break (is_doubled c.args.place character rest) character cursor
    else render_inner limit n c.args.place character rest cursor) c.if-is_break.ensures)
    c.write_end.ensures

pub returns-else-is_break : goal.returns-else-is_break
returns-else-is_break g c =
    let limit = limit_of c.args.lines.width in
    let n = natural c.args.lines.indent in
    let character = c.args.character in
    let rest = chars c.args.rest.now in
    let cursor = c.args.pen.now.cursor in
    wrote_as (render_step limit n c.args.place character rest)
    (ap (λ (b : Bool). if b then render_block_break (is_doubled c.args.place character rest) character cursor
    else render_inner limit n c.args.place character rest cursor) c.if-is_break.ensures)
    c.write_inner.ensures
