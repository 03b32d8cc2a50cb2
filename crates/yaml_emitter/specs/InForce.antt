-- The directives in force, one default after another.
use Rattle.std.specs.Prelude.{List, [], ◌∷◌, ◌++◌, if◌then◌else◌}
use Rattle.yaml_base.specs.Event.{TagDirective}
use Rattle.yaml_base.specs.Tags.{gives_handle}

-- the directives with a default added, unless its handle is given
abbrev pub with_default : List TagDirective → TagDirective → List TagDirective
with_default own default = if gives_handle default.handle own then own else own ++ default ∷ []
