-- The program's status for an error of `yaml_toml`.
use Rattle.std.specs.Prelude.{ℕ}
use Rattle.yaml_toml.specs.declared.error.TomlError.{TomlError}
use Rattle.yaml_toml.specs.declared.error.TomlError.TheVariants as errors
use Rattle.yaml_program.specs.Faults.{emitter_status}

-- The status of an error: 3 if memory failed, 1 if a text is refused.
abbrev pub toml_status : TomlError → ℕ
toml_status (errors.Emitter error) = emitter_status error
toml_status error = 1
