use Rattle.yaml_scalar.proofs.Common.{Bool, false, and-false, [], ◌∷◌, refl, ap, sym, Cursor, render_text, render_hint}
use Rattle.yaml_scalar.proofs.Common.{wrote_as, wrote_changing, wrote_exit, wrote_failed_as}
use Rattle.yaml_base.specs.Cursor.{with_flags}
use Rattle.yaml_scalar.proofs.block_header.write_hint.Goals as goal

pub returns-in_err-put : goal.returns-in_err-put
returns-in_err-put g c = wrote_exit c.from_residual.ensures (wrote_failed_as (render_hint (c.args.hint ∷ [])) refl c.in_err-put.ensures.written)

pub returns : goal.returns
returns g c =
    let cursor = c.args.pen.now.cursor in
    wrote_as (render_hint (c.args.hint ∷ []))
    (ap (λ (indention : Bool). with_flags false indention (render_text (c.args.hint ∷ []) cursor)) (sym (and-false cursor.indention)))
    (wrote_changing (λ (after : Cursor). record after { indention = false })
    (wrote_changing (λ (after : Cursor). record after { whitespace = false }) c.in_ok-put.ensures.written c.set_whitespace.ensures)
    c.set_indention.ensures)
