use Rattle.yaml_json.proofs.Common.{◌≡◌, Some, List, drop, subst, sym, ap, ◌∙◌, arith, string_bytes, StepsFrom, Lexeme, may_begin, content}
use Rattle.yaml_json.proofs.{Boundaries.after_first, Stepping.no_string, Stepping.string_is, ModeSteps.leads_on, ModeSteps.quote_leads}
use Rattle.json.specs.Text.{plain}
use Rattle.yaml_json.proofs.tokens.escaped.Goals as goal

pub unescape-requires : goal.unescape-requires
unescape-requires g c = after_first c.args.text.now 34 c.utf8.text c.requires.quote (omega arith) (λ e. absurd (omega arith))

pub returns-in-Ok-None : goal.returns-in-Ok-None
returns-in-Ok-None g c = record {
  steps = no_string _ _ c.requires.quote (rw c.in-Ok-None.field-0-is at c.in-Ok-None.ensures) c.bad.ensures.token c.bad.ensures.over c.bad.ensures.tidy;
  over = c.bad.ensures.stays;
}

pub returns : goal.returns
returns g c = record {
  steps =
      let d = c.args.text.now in
      let read : content plain (drop 1 d) ≡ Some (string_bytes c.in-Ok-Some.string) = rw c.in-Ok-Some.field-0-is at c.in-Ok-Some.ensures in
      let holds = read ∙ ap Some (sym (c.in-Ok.ensures ∙ c.as_str.ensures.value)) in
      subst (λ (ls : List Lexeme). StepsFrom may_begin ls c.string_step.result)
      (string_is d c.in-Ok.content.now c.after_string.result.now c.requires.quote holds c.after_string.ensures.same) c.string_step.ensures.steps;
  over =
      let d = c.args.text.now in
      leads_on d _ _ (quote_leads d _ c.requires.quote c.after_string.ensures.over) c.string_step.ensures.over;
}
