use Rattle.yaml_json.proofs.Common.{head, Over, Owed, ◌≡◌, [], ◌∷◌, drop, refl, sym, ap, ◌∙◌, arith, true≢false, after_comma, after_value, lex}
use Rattle.yaml_json.{specs.declared.tokens.Stage.TheVariants.Behind, proofs.Boundaries.after_first, proofs.PunctuateSteps.lex-comma}
use Rattle.yaml_json.proofs.ModeSteps.{drop_leads, leads_nowhere, leads_on, operator_leads}
use Rattle.json.specs.Lex.{between, punctuate, comma as comma_lexeme}
use Rattle.yaml_json.proofs.tokens.ending.Goals as goal

owed_apart : Owed ≡ Behind → ⊥
owed_apart e = cc

owed_over : Owed ≡ Over → ⊥
owed_over e = cc

behind_over : Behind ≡ Over → ⊥
behind_over e = cc

pub range_from-requires : goal.range_from-requires
range_from-requires c positive =
    after_first c.args.text.now 44 c.utf8.text (ap head (sym c.as_bytes.ensures.value) ∙ sym c.byte_at.ensures ∙ c.if-byte_at-eq44.true)
    (omega arith) (λ e. absurd (omega arith))

pub returns-then-byte_at-eq44 : goal.returns-then-byte_at-eq44
unfolding punctuate
returns-then-byte_at-eq44 c =
    let d = c.args.text.now in
    let comma : head d ≡ 44 = ap head (sym c.as_bytes.ensures.value) ∙ sym c.byte_at.ensures ∙ c.if-byte_at-eq44.true in
    let rest : lex between c.skip_blanks.result.now ≡ lex between (drop 1 d) = c.skip_blanks.ensures.same ∙ ap (lex between) c.range_from.ensures.value in
    record {
      same = refl;
      good = λ over. absurd (owed_over over);
      passed = comma_lexeme ∷ [];
      parts = lex-comma d comma ∙ ap (λ ls. comma_lexeme ∷ ls) (sym rest);
      follows = λ more f e. absurd (true≢false (sym e));
      reads = λ more. refl;
      left = ap (punctuate after_comma) (c.skip_blanks.ensures.same ∙ ap (lex between) c.range_from.ensures.value)
          ∙ sym (ap (punctuate after_value) (lex-comma d comma));
      over = leads_on d (drop 1 d) c.skip_blanks.result.now (operator_leads d 44 comma refl (λ e. absurd (omega arith)))
          (drop_leads d c.range_from.result.now c.skip_blanks.result.now 1 c.range_from.ensures.value c.skip_blanks.ensures.over);
      tidy = record { trimmed = c.skip_blanks.ensures.past; comma = λ e. absurd (owed_apart e) };
    }

pub returns-else-byte_at-eq44 : goal.returns-else-byte_at-eq44
returns-else-byte_at-eq44 c = record {
  same = refl;
  good = λ over. absurd (behind_over over);
  passed = [];
  parts = refl;
  follows = λ more f. f;
  reads = λ more. refl;
  left = refl;
  over = leads_nowhere c.args.text.now;
  tidy = record { trimmed = c.requires; comma = λ e comma. c.if-byte_at-eq44.false (c.byte_at.ensures ∙ ap head c.as_bytes.ensures.value ∙ comma) };
}
