use Rattle.yaml_scalar.proofs.Common.{ℕ, chars, List, ap, sym, ◌∙◌, list_any, Text, is_break, Charset, Allowances, ChosenStyle, chosen, BarredStyles}
use Rattle.yaml_scalar.proofs.Common.{allowed_by}
use Rattle.yaml_scalar.proofs.Choices.{allowed_whole, alike}
use Rattle.yaml_scalar.proofs.analysis.analyze_for_style.Goals as goal

pub returns : goal.returns
returns c asked empty tag_written plain_implicit quoted_implicit flow simple_key canonical =
    let value = chars c.args.value.now in
    let charset : Charset = record { unicode = c.args.unicode; breaks12 = c.args.breaks12 } in
    let found = c.barred_before.result.0 in
    let rest : List ℕ = c.barred_before.result.1.now in
    let choice : Allowances → ChosenStyle = λ a. chosen a asked empty tag_written plain_implicit quoted_implicit flow simple_key canonical in
    ap choice c.data_of.ensures
    ∙ alike found (list_any is_break (chars rest)) value (λ some. ap (λ (t : Text). list_any is_break t) (c.barred_before.ensures.rest some))
    asked empty tag_written plain_implicit quoted_implicit flow simple_key canonical
    ∙ ap choice (ap (λ (b : BarredStyles). allowed_by b value) c.barred_before.ensures.same ∙ sym (allowed_whole charset value))
