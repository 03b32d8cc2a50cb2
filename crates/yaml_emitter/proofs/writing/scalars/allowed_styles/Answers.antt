use Rattle.yaml_emitter.proofs.Common.{◌||◌, ◌&&◌, ap, ◌∙◌, sym, Bool, subst, Charset, allowances, seen_effective, seen_scalar}
use Rattle.yaml_base.specs.scalars.Style.{is_literal}
use Rattle.yaml_emitter.proofs.pieces.QuotesAllowed.{alike_under}
use Rattle.yaml_scalar.specs.ScalarData.{ChooseAlike}
use Rattle.yaml_emitter.proofs.writing.scalars.allowed_styles.Goals as goal

pub returns : goal.returns
returns c =
    let settings = c.args.settings.now in
    let content = seen_scalar c.args.content.now in
    let found = c.analyze_for_style.result in
    alike_under (seen_effective settings) found content
    (ap (λ (b : Bool). b || is_literal content.style && settings.literal_blanks) c.if-settings.false
    ∙ sym c.are_blanks_literal.ensures ∙ c.if-are_blanks_literal.false)
    (subst (λ (special : Bool). let charset : Charset = record { unicode = settings.unicode; breaks12 = special } in
    ChooseAlike found (allowances charset content.value))
    c.escapes_separators.ensures c.analyze_for_style.ensures)
