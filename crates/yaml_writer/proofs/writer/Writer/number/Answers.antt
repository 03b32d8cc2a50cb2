use Rattle.yaml_writer.proofs.Common.{chars, ◌≡◌, ap, ap₂, sym, ◌∙◌, option_or, plain, yaml_number, Option, None, Some, Text, WriterState}
use Rattle.yaml_writer.proofs.{SpellingLemmas.number_by_chars, SpellingLemmas.same_spelling, Taken.given_as, Taken.or_own}
use Rattle.yaml_emitter.specs.BorrowedTexts.{seen_name}
use Rattle.yaml_writer.specs.Writing.{number_tag, scalar_event, tag_or_default}
use Rattle.yaml_writer.proofs.writer.Writer.number.Goals as goal
use Rattle.yaml_writer.proofs.writer.Writer.number.Goals.{then-self, else-self}

pub returns-then-is_spelled : goal.returns-then-is_spelled
returns-then-is_spelled g c =
    let before = c.args.self.now in
    let number = c.args.number.now in
    let text : chars c.as_str.result.now ≡ yaml_number number =
    (number_by_chars c.as_str.result.now number c.as_str.ensures).text_is ∙ sym (same_spelling number (sym c.is_spelled.ensures ∙ c.if-is_spelled.true)) in
    let own : seen_name c.if-self.own ≡ tag_or_default None before.canonical (number_tag number) =
    elim c.if-self.branch [
      | then-self w ↦
          ap seen_name w.own-is ∙ ap (λ (tag : Text). Some tag) w.tag_of_number.ensures
          ∙ ap (λ b. tag_or_default None b (number_tag number)) (sym w.if-self.true ∙ ap (λ (w : WriterState). w.canonical) c.self.view_is)
      | else-self w ↦
          ap seen_name w.own-is
          ∙ ap (λ b. tag_or_default None b (number_tag number)) (sym w.if-self.false ∙ ap (λ (w : WriterState). w.canonical) c.self.view_is)
    ] in
    given_as before c.scalar.new.self c.scalar.result
    (ap₂ (λ (tag : Option Text) (text : Text). scalar_event before tag text plain)
    (ap (option_or before.tag) own ∙ or_own before.tag before.canonical (number_tag number)) text)
    c.scalar.ensures
