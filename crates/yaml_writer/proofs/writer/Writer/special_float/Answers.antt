use Rattle.std.specs.Borrow.{Bor}
use Rattle.yaml_writer.proofs.Common.{ℕ, List, chars, codes, refl, ap, ap₂, sym, ◌≡◌, ◌∙◌, chars-literal, word_event, float_tag}
use Rattle.yaml_writer.proofs.Taken.{given_as}
use Rattle.yaml_writer.specs.Floats.{special_text}
use Rattle.yaml_writer.proofs.writer.Writer.special_float.Goals as goal
use Rattle.yaml_writer.proofs.writer.Writer.special_float.Goals.{in-Infinity, in-NegativeInfinity, in-NotANumber}

pub returns : goal.returns
returns g c =
    let word : chars c.match-value.word.now ≡ special_text c.args.value = elim c.match-value.branch [
      | in-Infinity w ↦
          ap (λ (text : Bor (List ℕ)). chars text.now) w.word-is ∙ chars-literal (codes ".inf") refl ∙ ap special_text (sym w.in-Infinity.is)
      | in-NegativeInfinity w ↦
          ap (λ (text : Bor (List ℕ)). chars text.now) w.word-is ∙ chars-literal (codes "-.inf") refl ∙ ap special_text (sym w.in-NegativeInfinity.is)
      | in-NotANumber w ↦
          ap (λ (text : Bor (List ℕ)). chars text.now) w.word-is ∙ chars-literal (codes ".nan") refl ∙ ap special_text (sym w.in-NotANumber.is)
    ] in
    given_as c.args.self.now c.word.new.self c.word.result
    (ap₂ (word_event c.args.self.now) (chars-literal float_tag refl) word) c.word.ensures
