use Rattle.yaml_json.proofs.Common.{◌≡◌, List, ℕ, [], ◌∷◌, subst, sym, ◌∙◌, bad, ahead}
use Rattle.yaml_json.proofs.Stepping.{at_end_closed, at_end_owed, bad_here}
use Rattle.yaml_json.proofs.tokens.at_end.Goals as goal

pub returns-then-may_close : goal.returns-then-may_close
returns-then-may_close c = record {
  reads = subst (λ (t : List ℕ). ahead c.args.stage t ≡ []) (sym c.requires.none) (at_end_closed c.args.stage (sym c.may_close.ensures ∙ c.if-may_close.true));
  over = tt;
}

pub returns-else-may_close : goal.returns-else-may_close
returns-else-may_close c = record {
  reads =
      bad_here c.args.stage c.args.text.now c.bad.result (subst (λ (t : List ℕ). ahead c.args.stage t ≡ bad ∷ []) (sym c.requires.none)
      (at_end_owed c.args.stage c.requires.over (sym c.may_close.ensures ∙ c.if-may_close.false))) c.bad.ensures.token c.bad.ensures.over c.bad.ensures.tidy;
  over = c.bad.ensures.stays;
}
