use Rattle.yaml_writer.proofs.Common.{Bool, chars, rules, Option, None, is_some, ◌||◌, refl, ◌≡◌, ap, ap₂, ◌∙◌, chars-literal, option_or, Text, plain}
use Rattle.yaml_writer.proofs.Common.{WriterState}
use Rattle.yaml_emitter.specs.BorrowedTexts.{seen_name}
use Rattle.yaml_writer.proofs.Taken.{given_as, or_own}
use Rattle.yaml_writer.specs.SeenTimes.{seen_timestamp}
use Rattle.yaml_writer.specs.Times.{Moment, timestamp_text}
use Rattle.yaml_writer.specs.Writing.{scalar_event, tag_or_default, timestamp_tag}
use Rattle.yaml_writer.proofs.timestamps.write_timestamp.Goals as goal

pub returns-in-Ok : goal.returns-in-Ok
returns-in-Ok g c =
    let before : WriterState = c.args.writer.now in
    let moment : Moment = seen_timestamp c.args.timestamp.now in
    let timed : c.is_some.result ≡ is_some moment.time = search rules in
    let needed : (c.writer.inside.canonical || c.is_some.result) ≡ (before.canonical || is_some moment.time) =
    ap (λ (b : Bool). c.writer.inside.canonical || b) timed ∙ ap (λ (writer : WriterState). writer.canonical || is_some moment.time) c.writer.view_is in
    let own : seen_name c.own_tag-tag.result ≡ tag_or_default None (before.canonical || is_some moment.time) timestamp_tag =
    c.own_tag-tag.ensures ∙ ap₂ (tag_or_default None) needed (chars-literal timestamp_tag refl) in
    let text : chars c.as_str.result.now ≡ timestamp_text moment = ap chars c.as_str.ensures.value ∙ c.in-Ok.ensures.text in
    given_as before c.scalar.new.self c.scalar.result
    (ap₂ (λ (tag : Option Text) (text : Text). scalar_event before tag text plain)
    (ap (option_or before.tag) own ∙ or_own before.tag (before.canonical || is_some moment.time) timestamp_tag) text)
    c.scalar.ensures
