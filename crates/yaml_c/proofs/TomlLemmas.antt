-- A result of `yaml_toml` is a right answer.
use Rattle.yaml_c.proofs.Common.{ℕ, List, seen_settings}
use Rattle.std.specs.Prelude.{IsUtf8}
use Rattle.std.proofs.Common.{Err, Ok, Result, Vec}
use Rattle.yaml_toml.specs.{WritingCalls.ReturnsTomlYaml, declared.error.TomlError.TomlError}
use Rattle.yaml_writer.specs.declared.settings.ValueSettings.{ValueSettings}
use Rattle.yaml_c.specs.TomlAnswers.{IsTomlAnswer, toml_answer_of}

pub right_toml : {A : Type 0} (settings : ValueSettings) (text : List ℕ) (result : Result (Vec ℕ A) TomlError) → IsUtf8 text
    → ReturnsTomlYaml settings text result
    → IsTomlAnswer (seen_settings settings.emitter) settings.flow settings.depth text (toml_answer_of result)
right_toml settings text (Ok bytes) utf8 returned = (utf8, returned)
right_toml settings text (Err error) utf8 returned = (utf8, returned)
