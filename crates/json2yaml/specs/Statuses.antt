-- The program's status for an error of `yaml_json`, and for one of `yaml_json_value`.
use Rattle.std.specs.Prelude.{ℕ}
use Rattle.yaml_json.specs.declared.error.JsonError.TheVariants as errors
use Rattle.yaml_json.specs.declared.error.StreamError.{StreamError}
use Rattle.yaml_json.specs.declared.error.StreamError.TheVariants as faults
use Rattle.yaml_json_value.specs.declared.error.ValueError.{ValueError}
use Rattle.yaml_json_value.specs.declared.error.ValueError.TheVariants as values
use Rattle.yaml_program.specs.Faults.{emitter_status}

-- The status of an error: 1 if a text is refused, 3 if reading, writing or memory failed.
abbrev pub json_status : StreamError → ℕ
json_status (faults.Refused (errors.Emitter error)) = emitter_status error
json_status (faults.Refused error) = 1
json_status (faults.NotText position) = 1
json_status (faults.ReadFailed error) = 3
json_status (faults.WriteFailed error) = 3

-- The status of an error of a text's value: 1 if the text is refused, 3 if the emitter failed, which is for memory.
abbrev pub value_status : ValueError → ℕ
value_status (values.Json (errors.Emitter error)) = 3
value_status (values.Json error) = 1
value_status (values.NotInteger position) = 1
