use Rattle.std.proofs.Common.{Some}
use Rattle.yaml_c.proofs.Common.{◌≡◌, ◌∙◌, refl, rules, w32, of_z, to_z}
use Rattle.yaml_base.specs.declared.errors.yaml_error_t.TheVariants.{Memory}
use Rattle.yaml_c.proofs.emitters.tell_closed.Goals as goal

pub returns : goal.returns
returns c =
    let fits : to_z w32 (of_z w32 c.tell.result) ≡ c.tell.result = search rules in
    let told = c.tell.ensures (Some Memory) refl in
    (fits ∙ told.0, told.1)
