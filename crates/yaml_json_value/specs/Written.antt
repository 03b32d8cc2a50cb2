-- JSON texts of canonical bytes.
use Rattle.std.specs.Prelude.{List, ℕ}
use Rattle.yaml_base.specs.values.TypedValues.{TypedValue, WritesValue}
use Rattle.yaml_read.specs.AllowedKeys.{KeysAllow}
use Rattle.yaml_read.specs.RepeatedKeys.{IsPlacedBy}
use Rattle.yaml_value.specs.declared.keys.Keys.{Keys}
use Rattle.yaml_value.specs.declared.keys.Keys.TheVariants as keys
use Rattle.yaml_json_value.specs.TextNames.{ExplainsWriteError}
use Rattle.yaml_json_value.specs.Typed.{IsValueOf}
use Rattle.yaml_json_value.specs.declared.error.CanonicalError.{CanonicalError}
use Rattle.yaml_json_value.specs.declared.error.CanonicalError.TheVariants as errors

-- these are the canonical bytes of the value, whose maps have each key once, unless keys may repeat
pub record IsReadFrom (mode : Keys) (bytes : List ℕ) (value : TypedValue) : Type 0 where
  pub canonical : WritesValue value bytes
  pub keys : KeysAllow mode value

-- the text is JSON of the value whose canonical bytes these are
pub record IsJsonOf (mode : Keys) (bytes text : List ℕ) : Type 0 where
  pub value : TypedValue
  pub from : IsReadFrom mode bytes value
  pub is : IsValueOf keys.MayRepeat text value

-- the fact about the bytes that an error tells
abbrev pub ExplainsCanonicalError : Keys → (bytes : List ℕ) → CanonicalError → Type 0
ExplainsCanonicalError mode bytes (errors.Read error) = IsPlacedBy mode bytes error
ExplainsCanonicalError mode bytes (errors.Write error) = (value : TypedValue) × IsReadFrom mode bytes value × ExplainsWriteError value error
