-- A result of `yaml_json` is a right answer.
use Rattle.yaml_c.proofs.Common.{ℕ, List, IsAnswer, answer_of}
use Rattle.std.specs.Prelude.{IsUtf8}
use Rattle.std.proofs.Common.{Err, Ok, Result, Vec}
use Rattle.yaml_emitter.specs.Given.{seen_settings}
use Rattle.yaml_json.specs.{WritingCalls.ReturnsYaml, declared.error.JsonError.JsonError, declared.settings.JsonSettings.JsonSettings}

pub right_answer : {A : Type 0} (settings : JsonSettings) (text : List ℕ) (result : Result (Vec ℕ A) JsonError) → IsUtf8 text
    → ReturnsYaml settings text result
    → IsAnswer (seen_settings settings.values.emitter) settings.values.flow settings.values.depth settings.unique_names text (answer_of result)
right_answer settings text (Ok bytes) utf8 returned = (utf8, returned)
right_answer settings text (Err error) utf8 returned = (utf8, returned)
