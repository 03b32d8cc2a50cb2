-- The answers of `read_canonical`.
use Rattle.std.specs.Prelude.{ℕ, ◌≡◌, ◌≢◌, ◌⊎◌, IfErr, IfOk, List, Result, Some}
use Rattle.yaml_base.specs.Encoding.{encode}
use Rattle.yaml_base.specs.Settings.{utf8}
use Rattle.yaml_base.specs.values.TypedValues.{TypedValue, WritesValue}
use Rattle.yaml_base.specs.graphs.DumpedText.{document_text}
use Rattle.yaml_value.specs.SeenValues.{seen_value}
use Rattle.yaml_value.specs.declared.value.Value.{Value}
use Rattle.yaml_read.specs.Readable.{CanBeRead}
use Rattle.yaml_read.specs.declared.errors.ReadError.{ReadError}
use Rattle.yaml_read.specs.declared.errors.ReadError.TheVariants as told

-- memory gave out, or no value has these bytes
abbrev pub IsJust : List ℕ → ReadError → Type 0
IsJust bytes error = (error ≡ told.Memory) ⊎ ((value : TypedValue) → CanBeRead value → encode (Some utf8) (document_text value) ≢ bytes)

-- The clauses `read` and `complete` of `read_canonical` for its answer to these bytes.
pub record IsAnswerTo {A : Type 0} (bytes : List ℕ) (answer : Result (Value A) ReadError) : Type 0 where
  pub read : IfOk answer (λ value. WritesValue (seen_value value) bytes)
  pub complete : IfErr answer (IsJust bytes)
