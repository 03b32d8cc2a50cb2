use Rattle.std.proofs.Common.{List, ℕ, ap, ◌∙◌}
use Rattle.std.specs.Str.{chars}
use Rattle.yaml_base.specs.values.TypedValues.{text_value}
use Rattle.yaml_value.proofs.SeenLevels.{seen_string}
use Rattle.yaml_json_value.proofs.walk.text_of.Goals as goal

pub returns-in-Ok : goal.returns-in-Ok
returns-in-Ok g c = seen_string c.in-Ok.text ∙ ap (λ (bytes : List ℕ). text_value (chars bytes)) c.in-Ok.ensures.ok
