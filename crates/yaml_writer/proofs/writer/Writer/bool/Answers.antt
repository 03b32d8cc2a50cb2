use Rattle.std.specs.Borrow.{Bor}
use Rattle.yaml_writer.proofs.Common.{ℕ, List, chars, codes, refl, ap, ap₂, sym, ◌≡◌, ◌∙◌, chars-literal, word_event}
use Rattle.yaml_base.specs.values.TypedValues.{bool_tag, bool_text}
use Rattle.yaml_writer.proofs.Taken.{given_as}
use Rattle.yaml_writer.proofs.writer.Writer.bool.Goals as goal
use Rattle.yaml_writer.proofs.writer.Writer.bool.Goals.{then-value, else-value}

pub returns : goal.returns
returns g c =
    let word : chars c.if-value.word.now ≡ bool_text c.args.value = elim c.if-value.branch [
      | then-value w ↦
          ap (λ (text : Bor (List ℕ)). chars text.now) w.word-is ∙ chars-literal (codes "true") refl ∙ ap bool_text (sym w.if-value.true)
      | else-value w ↦
          ap (λ (text : Bor (List ℕ)). chars text.now) w.word-is ∙ chars-literal (codes "false") refl ∙ ap bool_text (sym w.if-value.false)
    ] in
    given_as c.args.self.now c.word.new.self c.word.result
    (ap₂ (word_event c.args.self.now) (chars-literal bool_tag refl) word) c.word.ensures
