use Rattle.yaml_scalar.proofs.Common.{length, ap, subst, sym, ◌∙◌, arith, list_any, IsAscii, Text, is_break, render_text, escape_text, Wrote}
use Rattle.yaml_scalar.proofs.EscapeBytes.{plain-unbroken, plain-ascii, escape-plain, escape-short}
use Rattle.yaml_scalar.proofs.double_quoted.write_bytes.Goals as goal

pub write_ascii-requires-clause-ascii : goal.write_ascii-requires-clause-ascii
write_ascii-requires-clause-ascii g c =
    subst IsAscii (sym c.requires.bytes) (plain-ascii (escape_text c.args.c) (escape-plain c.args.c))

pub write_ascii-requires-clause-no_break : goal.write_ascii-requires-clause-no_break
write_ascii-requires-clause-no_break g c =
    ap (list_any is_break) c.requires.bytes ∙ plain-unbroken (escape_text c.args.c) (escape-plain c.args.c)

pub write_ascii-requires-clause-fits : goal.write_ascii-requires-clause-fits
write_ascii-requires-clause-fits g c =
    omega (arith, ap length c.requires.bytes, escape-short c.args.c)

pub returns : goal.returns
returns g c =
    subst (λ (t : Text). Wrote (render_text t) c.args.pen.now c.write_ascii.new.self c.write_ascii.result)
    c.requires.bytes c.write_ascii.ensures.written
