use Rattle.yaml_writer.proofs.Common.{chars, Option, None, Some, ◌≡◌, refl, ap₂, option_or, rules, Text, WriterState, seen_scalar_style}
use Rattle.yaml_base.specs.Event.{ScalarStyle}
use Rattle.yaml_writer.{proofs.Taken.given_as, specs.Writing.scalar_event, specs.Writing.style_asked}
use Rattle.yaml_writer.proofs.writer.Writer.text_styled.Goals as goal

-- a text has no tag of its own
or_none : (tag : Option Text) → option_or tag None ≡ tag
or_none None = refl
or_none (Some tag) = refl

pub returns : goal.returns
returns g c =
    let before : WriterState = c.args.self.now in
    let styled : seen_scalar_style c.match-style.style ≡ style_asked (seen_scalar_style c.args.style) (chars c.args.value.now) = search rules in
    given_as before c.scalar.new.self c.scalar.result
    (ap₂ (λ (tag : Option Text) (style : ScalarStyle). scalar_event before tag (chars c.args.value.now) style) (or_none before.tag) styled)
    c.scalar.ensures
