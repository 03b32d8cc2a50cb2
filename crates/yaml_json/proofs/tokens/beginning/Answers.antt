use Rattle.yaml_json.proofs.Common.{◌≡◌, [], ◌∷◌, drop, true, inl, inr, sym, ap, ◌∙◌, arith, refl, in_word, lex, may_begin, bad, head}
use Rattle.yaml_json.proofs.{Boundaries.found_at, Stepping.opens_array, Stepping.opens_object, Stepping.refused, ModeSteps.leads_on, ModeSteps.operator_leads}
use Rattle.yaml_json.proofs.PunctuateSteps.{lex-colon, lex-comma, lex-stray, put-bad, stray-colon, stray-comma}
use Rattle.json.specs.Lex.{Place, between, punctuate}
use Rattle.yaml_json.proofs.tokens.beginning.Goals as goal

pub returns-in-123 : goal.returns-in-123
returns-in-123 g c = record {
  steps = opens_object c.args.text.now c.opening.result (ap head (sym c.as_bytes.ensures.value) ∙ sym c.byte_at.ensures ∙ c.in-123.is) c.opening.ensures;
  over =
      let d = c.args.text.now in
      leads_on d (drop 1 d) c.opening.result.rest.now (operator_leads d 123 (ap head (sym c.as_bytes.ensures.value) ∙ sym c.byte_at.ensures ∙ c.in-123.is) refl
      (λ e. absurd (omega arith))) c.opening.ensures.over;
}

pub returns-in-91 : goal.returns-in-91
returns-in-91 g c = record {
  steps = opens_array _ _ (ap head (sym c.as_bytes.ensures.value) ∙ sym c.byte_at.ensures ∙ c.in-91.is) c.opening-in-91.ensures;
  over =
      let d = c.args.text.now in
      leads_on d (drop 1 d) c.opening-in-91.result.rest.now (operator_leads d 91 (ap head (sym c.as_bytes.ensures.value) ∙ sym c.byte_at.ensures ∙ c.in-91.is)
      refl (λ e. absurd (omega arith))) c.opening-in-91.ensures.over;
}

pub returns-in-44 : goal.returns-in-44
returns-in-44 g c = record {
  steps =
      let d = c.args.text.now in
      let seen = ap head (sym c.as_bytes.ensures.value) ∙ sym c.byte_at.ensures in
      let stray = λ (none : (p : Place) → may_begin p ≡ true → punctuate p (lex between d) ≡ bad ∷ []).
      refused may_begin (lex between d) c.bad.result none c.bad.ensures.token c.bad.ensures.over c.bad.ensures.tidy in
      elim c.in-44.is [
        | inl comma ↦ stray (λ p e. ap (punctuate p) (lex-comma d (seen ∙ comma)) ∙ stray-comma p (lex between (drop 1 d)) e)
        | inr more ↦ elim more [
          | inl colon ↦ stray (λ p e. ap (punctuate p) (lex-colon d (seen ∙ colon)) ∙ stray-colon p (lex between (drop 1 d)) e)
          | inr slash ↦ stray (λ p e. ap (punctuate p) (lex-stray d (seen ∙ slash)) ∙ put-bad p (lex in_word (drop 1 d)))
        ]
      ];
  over = c.bad.ensures.stays;
}
