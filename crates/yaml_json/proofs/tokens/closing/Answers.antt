use Rattle.yaml_json.proofs.Common.{inl, inr, ap, ◌∙◌, arith, ◌≡◌, ◌⊎◌, List, ℕ, drop, refl, Leads, lex, head}
use Rattle.yaml_json.proofs.{Boundaries.after_first, Stepping.closes_array, Stepping.closes_object}
use Rattle.yaml_json.proofs.ModeSteps.{drop_leads, leads_on, operator_leads}
use Rattle.json.specs.Lex.{between}
use Rattle.yaml_json.proofs.tokens.closing.Goals as goal

pub range_from-requires : goal.range_from-requires
range_from-requires c positive =
    elim c.requires.1 [
      | inl object ↦ after_first c.args.text.now 125 c.utf8.text (c.requires.0 ∙ object) (omega arith) (λ e. absurd (omega arith))
      | inr array ↦ after_first c.args.text.now 93 c.utf8.text (c.requires.0 ∙ array) (omega arith) (λ e. absurd (omega arith))
    ]

past_closer : (d rest left : List ℕ) → (head d ≡ 125) ⊎ (head d ≡ 93) → Leads (drop 1 d) rest → Leads rest left → Leads d left
past_closer d rest left (inl object) one two =
    leads_on d (drop 1 d) left (operator_leads d 125 object refl (λ e. absurd (omega arith))) (leads_on (drop 1 d) rest left one two)
past_closer d rest left (inr array) one two =
    leads_on d (drop 1 d) left (operator_leads d 93 array refl (λ e. absurd (omega arith))) (leads_on (drop 1 d) rest left one two)

pub returns-then-byte-eq125 : goal.returns-then-byte-eq125
returns-then-byte-eq125 c = record {
  steps =
      closes_object c.args.text.now c.skip_blanks-rest.result.now c.ending.result (c.requires.0 ∙ c.if-byte-eq125.true)
      (c.skip_blanks-rest.ensures.same ∙ ap (lex between) c.range_from.ensures.value) c.ending.ensures;
  over =
      past_closer c.args.text.now c.skip_blanks-rest.result.now c.ending.result.rest.now (inl (c.requires.0 ∙ c.if-byte-eq125.true)) (drop_leads c.args.text.now
      c.range_from.result.now c.skip_blanks-rest.result.now 1 c.range_from.ensures.value c.skip_blanks-rest.ensures.over) c.ending.ensures.over;
}

pub returns-else-byte-eq125 : goal.returns-else-byte-eq125
returns-else-byte-eq125 c = record {
  steps =
      elim c.requires.1 [
        | inl object ↦ absurd (c.if-byte-eq125.false object)
        | inr array ↦ closes_array c.args.text.now c.skip_blanks-rest.result.now c.ending-else-byte-eq125.result (c.requires.0 ∙ array)
            (c.skip_blanks-rest.ensures.same ∙ ap (lex between) c.range_from.ensures.value) c.ending-else-byte-eq125.ensures
      ];
  over =
      let which : (head c.args.text.now ≡ 125) ⊎ (head c.args.text.now ≡ 93) =
      elim c.requires.1 [ inl object ↦ inl (c.requires.0 ∙ object) | inr array ↦ inr (c.requires.0 ∙ array) ] in
      past_closer c.args.text.now c.skip_blanks-rest.result.now c.ending-else-byte-eq125.result.rest.now which (drop_leads c.args.text.now
      c.range_from.result.now c.skip_blanks-rest.result.now 1 c.range_from.ensures.value c.skip_blanks-rest.ensures.over) c.ending-else-byte-eq125.ensures.over;
}
