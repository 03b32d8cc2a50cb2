use Rattle.yaml_json.proofs.Common.{arith, drop, refl, sym, ap, ◌∙◌, head}
use Rattle.yaml_json.proofs.{Stepping.key_step, Stepping.text_step, ModeSteps.leads_on, ModeSteps.operator_leads}
use Rattle.yaml_json.proofs.tokens.string_step.Goals as goal

pub returns-then-byte_at-eq58-clause-steps : goal.returns-then-byte_at-eq58-clause-steps
returns-then-byte_at-eq58-clause-steps c =
    key_step _ _ _ _ c.skip_blanks-rest.ensures.same (ap head (sym c.as_bytes.ensures.value) ∙ sym c.byte_at.ensures ∙ c.if-byte_at-eq58.true) c.opening.ensures

pub returns-else-byte_at-eq58-clause-steps : goal.returns-else-byte_at-eq58-clause-steps
returns-else-byte_at-eq58-clause-steps c =
    text_step c.args.content.now c.args.after.now c.skip_blanks-rest.result.now c.ending.result c.skip_blanks-rest.ensures.same c.skip_blanks-rest.ensures.past
    (λ e. c.if-byte_at-eq58.false (c.byte_at.ensures ∙ ap head c.as_bytes.ensures.value ∙ e)) c.ending.ensures

pub returns-then-byte_at-eq58-clause-over : goal.returns-then-byte_at-eq58-clause-over
returns-then-byte_at-eq58-clause-over c =
    let after = c.args.after.now in
    let rest = c.skip_blanks-rest.result.now in
    leads_on after rest c.opening.result.rest.now c.skip_blanks-rest.ensures.over (leads_on rest (drop 1 rest) c.opening.result.rest.now (operator_leads rest 58
    (ap head (sym c.as_bytes.ensures.value) ∙ sym c.byte_at.ensures ∙ c.if-byte_at-eq58.true) refl (λ e. absurd (omega arith))) c.opening.ensures.over)

pub returns-else-byte_at-eq58-clause-over : goal.returns-else-byte_at-eq58-clause-over
returns-else-byte_at-eq58-clause-over c =
    leads_on c.args.after.now c.skip_blanks-rest.result.now c.ending.result.rest.now c.skip_blanks-rest.ensures.over c.ending.ensures.over
