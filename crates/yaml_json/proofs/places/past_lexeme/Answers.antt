use Rattle.yaml_json.proofs.Common.{drop, subst, sym, PassesLexeme}
use Rattle.yaml_json.proofs.PassingLexemes.{past_at}
use Rattle.yaml_json.proofs.places.past_lexeme.Goals as goal

pub returns-then-from-text-clause-past : goal.returns-then-from-text-clause-past
returns-then-from-text-clause-past c within no_slash trimmed =
    let d = c.args.text.now in
    let from = c.args.from in
    subst (λ n. PassesLexeme (drop from d) (drop n d)) (sym c.saturating_sub.ensures) (past_at d _ _ (c.after_lexeme.ensures no_slash trimmed))
