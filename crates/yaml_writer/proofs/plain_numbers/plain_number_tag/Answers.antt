use Rattle.yaml_writer.proofs.Common.{Some, ap, sym, ◌∙◌, chars-literal, Text, float_tag, int_tag, refl}
use Rattle.yaml_writer.proofs.ShapeCuts.{number_tag_by_chars}
use Rattle.yaml_writer.proofs.plain_numbers.plain_number_tag.Goals as goal

pub returns-then-is_integer : goal.returns-then-is_integer
returns-then-is_integer c =
    ap (λ (t : Text). Some t) (chars-literal int_tag refl)
    ∙ sym (number_tag_by_chars c.args.text.now _ _ c.utf8.text (sym c.is_integer.ensures ∙ c.if-is_integer.true) refl)

pub returns-then-is_float : goal.returns-then-is_float
returns-then-is_float c =
    ap (λ (t : Text). Some t) (chars-literal float_tag refl)
    ∙ sym (number_tag_by_chars c.args.text.now _ _ c.utf8.text (sym c.is_integer.ensures ∙ c.if-is_integer.false)
    (sym c.is_float.ensures ∙ c.if-is_float.true))

pub returns : goal.returns
returns c =
    sym (number_tag_by_chars c.args.text.now _ _ c.utf8.text (sym c.is_integer.ensures ∙ c.if-is_integer.false)
    (sym c.is_float.ensures ∙ c.if-is_float.false))
