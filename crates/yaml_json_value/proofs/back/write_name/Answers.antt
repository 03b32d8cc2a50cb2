use Rattle.std.proofs.Common.{◌∷◌, List, ap, subst, sym, ◌∙◌, ℕ}
use Rattle.std.specs.Str.{chars}
use Rattle.yaml_base.specs.values.TypedValues.{TypedValue, text_value}
use Rattle.yaml_value.specs.SeenValues.{seen_value}
use Rattle.yaml_value.specs.declared.value.Value.{Value}
use Rattle.yaml_value.proofs.SeenLevels.{seen_string}
use Rattle.yaml_json_value.specs.Untyped.{Walked, members_left}
use Rattle.yaml_json_value.proofs.back.write_name.Goals as goal

pub returns-in-Text : goal.returns-in-Text
returns-in-Text g c = λ root value pairs outer walked.
    let is = ap (λ (key : Value g.row.A.Denot). seen_value key) c.in-Text.is ∙ seen_string c.in-Text.name
    ∙ ap (λ (bytes : List ℕ). text_value (chars bytes)) (sym c.as_str.ensures.value) in
    c.write_key.ensures root value pairs outer
    (subst (λ (key : TypedValue). Walked root c.args.writer.now.tokens (members_left ((key, value) ∷ pairs) ∷ outer)) is walked)
