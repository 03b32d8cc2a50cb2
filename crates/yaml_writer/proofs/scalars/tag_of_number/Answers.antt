use Rattle.yaml_writer.proofs.Common.{if◌then◌else◌, refl, ap, sym, ◌∙◌, chars-literal, int_tag, float_tag}
use Rattle.yaml_writer.proofs.scalars.tag_of_number.Goals as goal

pub returns-then-is_integer : goal.returns-then-is_integer
returns-then-is_integer c = chars-literal int_tag refl ∙ sym (ap (λ x. if x then int_tag else float_tag) (sym c.is_integer.ensures ∙ c.if-is_integer.true))

pub returns-else-is_integer : goal.returns-else-is_integer
returns-else-is_integer c = chars-literal float_tag refl ∙ sym (ap (λ x. if x then int_tag else float_tag) (sym c.is_integer.ensures ∙ c.if-is_integer.false))
