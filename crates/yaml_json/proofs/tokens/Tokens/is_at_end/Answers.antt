use Rattle.yaml_json.proofs.Common.{sym, ap, ◌∙◌, Reader}
use Rattle.yaml_json.proofs.{Reaching.ends_so, Reaching.more_owed, Reaching.more_so, TextsInTurn.is_more, TextsInTurn.no_more}
use Rattle.yaml_json.proofs.tokens.Tokens.is_at_end.Goals as goal

pub returns-in-Open-clause-end : goal.returns-in-Open-clause-end
returns-in-Open-clause-end g c e =
    let s = c.self.inside in
    sym (ap (λ (r : Reader). r.ahead) c.self.view_is) ∙ ends_so s.stage s.rest.now c.in-Open.is (no_more s.rest.now c.is_empty.result c.is_empty.ensures e)

pub returns-in-Open-clause-more : goal.returns-in-Open-clause-more
returns-in-Open-clause-more g c e none =
    more_so _ _ c.self.invariant.stands.tidy c.in-Open.is (is_more _ _ c.is_empty.ensures e) (ap (λ (r : Reader). r.ahead) c.self.view_is ∙ none)

pub returns-in-Owed-clause-more : goal.returns-in-Owed-clause-more
returns-in-Owed-clause-more g c e none =
    let s = c.self.inside in
    more_owed s.stage s.rest.now c.self.invariant.stands.tidy c.in-Owed.is (ap (λ (r : Reader). r.ahead) c.self.view_is ∙ none)
