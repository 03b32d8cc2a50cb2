use Rattle.yaml_json.proofs.Common.{◌∷◌, ◌+◌, List, ℕ, drop, subst, sym, ap, ◌∙◌, arith, IsCharBoundary-after_ascii, StepsFrom, ArePlain, Leads, Lexeme, lex}
use Rattle.yaml_json.proofs.Common.{may_begin, token, head}
use Rattle.yaml_json.proofs.{Boundaries.after_first, Boundaries.found_at, Stepping.plain_string, ModeSteps.leads_on, ModeSteps.string_leads}
use Rattle.json.specs.Lex.{between}
use Rattle.json.specs.Token as spec
use Rattle.yaml_json.proofs.tokens.string.Goals as goal

pub range-requires-clause-start_boundary : goal.range-requires-clause-start_boundary
range-requires-clause-start_boundary g c positive = after_first c.args.text.now 34 c.utf8.text c.requires.quote (omega arith) (λ e. absurd (omega arith))

pub range_from-requires : goal.range_from-requires
range_from-requires g c positive =
    let d = c.args.text.now in
    let end = c.plain_end-end.result in
    let same = c.as_bytes-bytes.ensures.value in
    let quote = found_at d end 34 (ap (λ t. head (drop end t)) (sym same) ∙ sym c.byte_at.ensures ∙ c.if-byte_at-eq34.true) (λ e. absurd (omega arith)) in
    IsCharBoundary-after_ascii d end c.utf8.text quote.0 (omega (arith, quote.1))

pub returns-then-byte_at-eq34 : goal.returns-then-byte_at-eq34
returns-then-byte_at-eq34 g c =
    let d = c.args.text.now in
    let end = c.plain_end-end.result in
    let same = c.as_bytes-bytes.ensures.value in
    let quote = found_at d end 34 (ap (λ t. head (drop end t)) (sym same) ∙ sym c.byte_at.ensures ∙ c.if-byte_at-eq34.true) (λ e. absurd (omega arith)) in
    let are = subst (λ (t : List ℕ). ArePlain t 1 end) same c.plain_end-end.ensures in
    record {
      steps =
          subst (λ (ls : List Lexeme). StepsFrom may_begin ls c.string_step.result)
          (ap (λ t. token (spec.string c.range.result.now) ∷ lex between t) c.range_from.ensures.value
          ∙ plain_string d c.range.result.now end c.requires.quote are quote.0 quote.1 c.range.ensures.value)
          c.string_step.ensures.steps;
      over =
          leads_on d (drop (end + 1) d) c.string_step.result.rest.now (string_leads d end c.requires.quote are quote.0 quote.1)
          (subst (λ (t : List ℕ). Leads t c.string_step.result.rest.now) c.range_from.ensures.value c.string_step.ensures.over);
    }
