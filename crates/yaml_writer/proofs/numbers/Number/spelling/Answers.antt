use Rattle.yaml_writer.proofs.Common.{true≢false, ap, sym, ◌∙◌, is_json_number, is_spelled, yaml_number}
use Rattle.std.proofs.Common.{string_bytes}
use Rattle.yaml_writer.proofs.SpellingLemmas.{number_by_chars, spelling_chars, same_spelling}
use Rattle.yaml_writer.proofs.UnchangedSpellings.{stands_as_spelled}
use Rattle.yaml_writer.specs.NumberParts.{number_in}
use Rattle.yaml_writer.proofs.numbers.Number.spelling.Goals as goal

pub returns-then-is_spelled-clause-spelled : goal.returns-then-is_spelled-clause-spelled
returns-then-is_spelled-clause-spelled g c =
    let text = c.self.inside.text.now in
    (number_by_chars text (number_in text) c.self.invariant).text_is
    ∙ sym (same_spelling (number_in text) (ap is_spelled c.self.view_is ∙ sym c.is_spelled.ensures ∙ c.if-is_spelled.true))
    ∙ ap yaml_number c.self.view_is

pub returns-clause-spelled : goal.returns-clause-spelled
returns-clause-spelled g c =
    spelling_chars (string_bytes c.in_ok-spelled.spelled) c.args.self.now (sym (ap is_json_number c.self.view_is) ∙ c.self.invariant.valid)
    (c.in_ok-spelled.ensures ∙ ap yaml_number c.parts.ensures)

pub returns-in_err-spelled-clause-spare : goal.returns-in_err-spelled-clause-spare
returns-in_err-spelled-clause-spare g c spare =
    absurd (true≢false (sym (stands_as_spelled c.args.self.now (sym spare)) ∙ sym c.is_spelled.ensures ∙ c.if-is_spelled.false))
