-- The results of the function over TOML.
use Rattle.std.specs.Prelude.{ℕ, ℤ, Bool, List, Result, Ok, Err, Vec, IsUtf8}
use Rattle.yaml_base.specs.Settings.{Settings}
use Rattle.yaml_base.specs.declared.errors.yaml_error_t.TheVariants as emitter_errors
use Rattle.yaml_toml.specs.WritingCalls.{HasNoTomlYaml, HasTomlYaml}
use Rattle.yaml_toml.specs.declared.error.TomlError.{TomlError}
use Rattle.yaml_toml.specs.declared.error.TomlError.TheVariants as errors
use Rattle.yaml_c.specs.Answers.{CallResults, CopiesToCaller, at_place, nothing_reported, results_done, results_failed}
use Rattle.yaml_base.specs.declared.places.Position.{Position}
use Rattle.yaml_c.specs.Arena.{is_on}
use Rattle.yaml_c.specs.GivenSettings.{depth_given, values_given}
use Rattle.yaml_c.specs.JsonAnswers.{IsNoText}
use Rattle.yaml_c.specs.declared.results.CallResult.{CallResult}
use Rattle.yaml_c.specs.declared.settings.ValueOptions.{ValueOptions}

-- An answer: the YAML of a text; the place at which the text stops to be UTF-8; or the error of a text that is refused.
pub data TomlAnswer : Type 0 where
  has_yaml : (yaml : List ℕ) → TomlAnswer
  is_no_text : Position → TomlAnswer
  fails : TomlError → TomlAnswer

-- True if the answer is right for the text. If the text is UTF-8, the YAML and the error are those that `yaml_toml` promises.
abbrev pub IsTomlAnswer : Settings → (in_flow : Bool) → (depth : ℕ) → (text : List ℕ) → TomlAnswer → Type 0
IsTomlAnswer given in_flow depth text (has_yaml yaml) = IsUtf8 text × HasTomlYaml given in_flow depth text yaml
IsTomlAnswer given in_flow depth text (is_no_text position) = IsNoText text position
IsTomlAnswer given in_flow depth text (fails error) = IsUtf8 text × HasNoTomlYaml given in_flow depth text error

-- The answer of a call.
abbrev pub toml_answer_of : {A : Type 0} → Result (Vec ℕ A) TomlError → TomlAnswer
toml_answer_of (Ok yaml) = has_yaml yaml.items
toml_answer_of (Err error) = fails error

-- The results of an answer: 0 for YAML, or 4 if it doesn't fit; 11 if the text isn't TOML, 7 if it defines a key that takes no more, 6 if it
-- nests too deep, 3 if memory ran out.
abbrev pub toml_error_results : TomlError → (out : List ℕ) → CallResults
toml_error_results (errors.NotToml position why) out = results_failed 11 (at_place position) out
toml_error_results (errors.DefinedAgain key name first position) out = results_failed 7 (at_place position) out
toml_error_results (errors.TooDeepToRead position) out = results_failed 6 (at_place position) out
toml_error_results errors.TooDeep out = results_failed 6 nothing_reported out
toml_error_results (errors.Emitter emitter_errors.TooDeep) out = results_failed 6 nothing_reported out
toml_error_results (errors.Emitter error) out = results_failed 3 nothing_reported out

abbrev pub toml_results : TomlAnswer → (out : List ℕ) → CallResults
toml_results (has_yaml yaml) out = results_done yaml 0 out
toml_results (is_no_text position) out = results_failed 11 (at_place position) out
toml_results (fails error) out = toml_error_results error out

-- True if these results are those of an answer that is right for the text by these options.
abbrev pub IsTomlRun : ValueOptions → (text old : List ℕ) → (status : ℤ) → (new : List ℕ) → CallResult → Type 0
IsTomlRun given text old status new report =
    (answer : TomlAnswer) × IsTomlAnswer (values_given given) (is_on given.flow) (depth_given given.depth) text answer
    × CopiesToCaller (toml_results answer old) status new report
