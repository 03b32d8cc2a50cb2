use Rattle.yaml_writer.proofs.Common.{is_spelled, not-true, true≢false, ap, sym, ◌≡◌, true, ◌∙◌}
use Rattle.yaml_writer.proofs.UnchangedSpellings.{unlettered_spelled}
use Rattle.yaml_writer.proofs.numbers.Number.is_spelled.Goals as goal
use Rattle.yaml_writer.proofs.numbers.Number.is_spelled.Goals.{then-lacks_letters, else-lacks_letters}

pub returns-then-ne : goal.returns-then-ne
returns-then-ne c =
    let spelled : is_spelled c.args.self.now ≡ true = elim c.if-lacks_letters.branch [
      | then-lacks_letters w ↦
          ap is_spelled (sym c.self.view_is)
          ∙ unlettered_spelled c.self.inside.text.now (sym c.lacks_letters.ensures ∙ w.if-lacks_letters.true)
          (not-true _ (sym w.ne.ensures ∙ sym w.value-is ∙ c.if-ne.true))
      | else-lacks_letters w ↦ absurd (true≢false (sym c.if-ne.true ∙ w.value-is ∙ w.if-lacks_letters.false))
    ] in
    c.if-ne.true ∙ sym spelled
