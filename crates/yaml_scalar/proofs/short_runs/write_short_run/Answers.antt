use Rattle.yaml_scalar.proofs.Common.{ℕ, length, List, ap, subst, sym, ◌∙◌, arith, list_any, IsAscii, is_break, render_text, Wrote}
use Rattle.yaml_scalar.proofs.EscapeBytes.{plain-unbroken, plain-ascii}
use Rattle.yaml_scalar.proofs.short_runs.write_short_run.Goals as goal

pub write_ascii-requires-clause-ascii : goal.write_ascii-requires-clause-ascii
write_ascii-requires-clause-ascii g c = subst IsAscii (sym c.as_bytes.ensures.value) (plain-ascii c.args.text.now c.requires.plain)

pub write_ascii-requires-clause-no_break : goal.write_ascii-requires-clause-no_break
write_ascii-requires-clause-no_break g c = ap (list_any is_break) c.as_bytes.ensures.value ∙ plain-unbroken c.args.text.now c.requires.plain

pub write_ascii-requires-clause-fits : goal.write_ascii-requires-clause-fits
write_ascii-requires-clause-fits g c = omega (arith, ap length c.as_bytes.ensures.value, c.requires.few)

pub returns : goal.returns
returns g c =
    subst (λ (t : List ℕ). Wrote (render_text t) c.args.pen.now c.write_ascii.new.self c.write_ascii.result) c.as_bytes.ensures.value
    c.write_ascii.ensures.written
