use Rattle.yaml_json.proofs.Common.{sym, ◌∙◌, token_of, head}
use Rattle.yaml_json.proofs.{Stepping.bad_word, Stepping.good_word, WordSteps.one_over, WordSteps.other_inner, ModeSteps.leads_on, WordModes.word_leads}
use Rattle.yaml_json.proofs.tokens.word_step.Goals as goal

pub returns-in-None : goal.returns-in-None
returns-in-None c = record {
  steps = bad_word c.args.text.now c.bad.result c.requires.other c.in-None.ensures.reads c.bad.ensures.token c.bad.ensures.over c.bad.ensures.tidy;
  over = c.bad.ensures.stays;
}

pub returns-in-Some : goal.returns-in-Some
returns-in-Some c = record {
  steps =
      let text = c.args.text.now in
      let found = c.in-Some.ensures.reads in
      good_word text c.skip_blanks.result.now (token_of c.in-Some.token) c.ending.result c.requires.other found.0 (λ bad. found.1 (sym found.0 ∙ bad))
      (c.skip_blanks.ensures.same ∙ found.2 ∙ sym (one_over text (other_inner (head text) c.requires.other))) c.ending.ensures;
  over =
      let text = c.args.text.now in
      let after = c.in-Some.after.now in
      leads_on text after c.ending.result.rest.now (word_leads text after c.requires.other c.in-Some.ensures.over.0 c.in-Some.ensures.over.1)
      (leads_on after c.skip_blanks.result.now c.ending.result.rest.now c.skip_blanks.ensures.over c.ending.ensures.over);
}
