use Rattle.yaml_scalar.proofs.Common.{Bool, ◌||◌, chars, ap, sym, ◌∙◌, BarredStyles, allowed_by}
use Rattle.yaml_scalar.proofs.Choices.{allowed_whole}
use Rattle.yaml_scalar.proofs.analysis.analyze_scalar.Goals as goal

pub returns : goal.returns
returns c =
    let value = chars c.args.value.now in
    c.data_of.ensures ∙ ap (λ (b : BarredStyles). allowed_by b value) (ap (λ (broken : Bool).
    let all : BarredStyles = record c.barred_before.result.0 { multiline = c.barred_before.result.0.multiline || broken } in all)
    c.holds_break.ensures ∙ c.barred_before.ensures.same)
    ∙ sym (allowed_whole (record { unicode = c.args.unicode; breaks12 = c.args.breaks12 }) value)
