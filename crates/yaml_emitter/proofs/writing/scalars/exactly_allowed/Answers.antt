use Rattle.yaml_emitter.proofs.Common.{arith, common_steps, rules, not, ◌&&◌, ◌≡◌, ◌∙◌, ap, Bool, Charset, allowances, seen_effective, seen_scalar}
use Rattle.yaml_emitter.proofs.pieces.QuotesAllowed.{exact_under}
use Rattle.yaml_emitter.proofs.writing.scalars.exactly_allowed.Goals as goal

pub returns : goal.returns
returns c =
    let settings = c.args.settings.now in
    let content = seen_scalar c.args.content.now in
    let single : c.if-not-settings.single_quoted_allowed ≡ (not settings.double_quotes && c.analyze_scalar-data.result.single_quoted_allowed) =
    first_of (search rules, grind (arith, common_steps)) in
    exact_under (seen_effective settings) c.analyze_scalar-data.result content c.if-not-settings.single_quoted_allowed
    c.takes_block-block_allowed.result
    (c.analyze_scalar-data.ensures
    ∙ ap (λ (special : Bool). let charset : Charset = record { unicode = settings.unicode; breaks12 = special } in allowances charset content.value)
    c.escapes_separators.ensures)
    single c.takes_block-block_allowed.ensures
