use Rattle.yaml_writer.proofs.Common.{chars, Option, Some, true, refl, ◌≡◌, ap, ◌∙◌, chars-literal, option_or, Text, WriterState, seen_scalar_style}
use Rattle.yaml_base.specs.Event.{ScalarStyle}
use Rattle.yaml_writer.proofs.Taken.{given_as, or_own}
use Rattle.yaml_writer.specs.Binary.{binary_tag, binary_text}
use Rattle.yaml_writer.specs.Writing.{scalar_event, text_style}
use Rattle.yaml_writer.proofs.writer.Writer.bytes.Goals as goal

pub returns-in-Ok : goal.returns-in-Ok
returns-in-Ok g c =
    let before : WriterState = c.args.self.now in
    let given = chars c.as_str-text.result.now in
    let text : given ≡ binary_text c.args.value.now = ap chars (c.as_str-text.ensures.value ∙ c.in-Ok.ensures.text) in
    given_as before c.scalar.new.self c.scalar.result
    (ap (λ (tag : Text). scalar_event before (option_or before.tag (Some tag)) given (seen_scalar_style c.style_of.result)) (chars-literal binary_tag refl)
    ∙ ap (λ (style : ScalarStyle). scalar_event before (option_or before.tag (Some binary_tag)) given style) c.style_of.ensures
    ∙ ap (λ (text : Text). scalar_event before (option_or before.tag (Some binary_tag)) text (text_style text)) text
    ∙ ap (λ (tag : Option Text). scalar_event before tag (binary_text c.args.value.now) (text_style (binary_text c.args.value.now)))
    (or_own before.tag true binary_tag))
    c.scalar.ensures
