use Rattle.yaml_value.proofs.Common.{codes, refl, ap, sym, ◌∙◌, chars, chars-literal, bool_text}
use Rattle.yaml_value.proofs.TextSteps.{scalar_written}
use Rattle.yaml_value.proofs.texts.write_bool.Goals as goal

pub returns-then-value : goal.returns-then-value
returns-then-value g c =
    scalar_written c.write_scalar.result c.args.bytes.now.items c.write_scalar.new.bytes.items (codes "!!bool ") (chars (codes "true"))
    (bool_text c.args.value) refl (chars-literal (codes "true") refl ∙ ap bool_text (sym c.if-value.true)) c.write_scalar.ensures

pub returns-else-value : goal.returns-else-value
returns-else-value g c =
    scalar_written c.write_scalar-else-value.result c.args.bytes.now.items c.write_scalar-else-value.new.bytes.items (codes "!!bool ")
    (chars (codes "false")) (bool_text c.args.value) refl (chars-literal (codes "false") refl ∙ ap bool_text (sym c.if-value.false))
    c.write_scalar-else-value.ensures
