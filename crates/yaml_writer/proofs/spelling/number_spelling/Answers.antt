use Rattle.yaml_base.proofs.Common.{sym, ◌∙◌, false≢true}
use Rattle.yaml_writer.proofs.spelling.number_spelling.Goals as goal

pub returns-in_ok-spelling-in-Some-clause-spelled : goal.returns-in_ok-spelling-in-Some-clause-spelled
returns-in_ok-spelling-in-Some-clause-spelled g c = record {
  number = c.in-Some.number;
  is_number = c.in-Some.ensures.characters;
  spelled = c.in_ok-spelling-in-Some.ensures.spelled;
}

pub returns-in_err-spelling-in-Some-clause-spare : goal.returns-in_err-spelling-in-Some-clause-spare
returns-in_err-spelling-in-Some-clause-spare g c spare =
    let is = c.in-Some.ensures.characters in
    absurd (false≢true (c.in_err-spelling-in-Some.ensures.spare (sym is.text_is ∙ spare c.in-Some.number is)))
