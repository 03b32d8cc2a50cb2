use Rattle.yaml_scalar.proofs.Common.{List, ℕ, true, [], ◌∷◌, subst, sym, render_text, wrote_text_then, wrote_text_failed, wrote_exit, Wrote}
use Rattle.yaml_scalar.proofs.LinesWritten.{quote_text}
use Rattle.yaml_scalar.proofs.lines.write_other.Goals as goal

pub returns-in_err-put : goal.returns-in_err-put
returns-in_err-put g c =
    subst (λ (t : List ℕ). Wrote (render_text t) c.args.pen.now c.put.new.self c.from_residual.result)
    (quote_text c.args.quoted c.args.character true (sym c.if-doubled.true))
    (wrote_exit c.from_residual.ensures (wrote_text_failed (c.args.character ∷ []) c.in_err-put.ensures.written))

pub returns-in_ok-put : goal.returns-in_ok-put
returns-in_ok-put g c =
    subst (λ (t : List ℕ). Wrote (render_text t) c.args.pen.now c.write_char.new.self c.write_char.result)
    (quote_text c.args.quoted c.args.character true (sym c.if-doubled.true))
    (wrote_text_then c.in_ok-put.ensures.written c.write_char.ensures.written)
