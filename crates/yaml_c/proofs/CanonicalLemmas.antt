-- A result of `yaml_json_value` is a right answer, and so is an error of `yaml_read`.
use Rattle.yaml_c.proofs.Common.{ℕ, ◌≡◌, List, Some, subst}
use Rattle.std.specs.Prelude.{◌≢◌, ◌⊎◌, IsUtf8}
use Rattle.std.proofs.Common.{Err, Ok, Result, Vec, IfOk, IfErr}
use Rattle.yaml_base.specs.{Encoding.encode, Settings.utf8, values.TypedValues.TypedValue, graphs.DumpedText.document_text}
use Rattle.yaml_value.specs.declared.keys.Keys.{Keys}
use Rattle.yaml_read.specs.{AllowedKeys.KeysAllow, Readable.CanBeRead, RepeatedKeys.IsPlacedBy, declared.errors.ReadError.ReadError}
use Rattle.yaml_read.specs.declared.errors.ReadError.TheVariants as errors
use Rattle.yaml_json_value.specs.{Typed.ExplainsValueError, Typed.IsCanonicalOf, declared.error.ValueError.ValueError}
use Rattle.yaml_c.specs.{CanonicalAnswers.IsReading, CanonicalJson.IsFound, CanonicalJson.found_of}

pub right_found : {A : Type 0} (mode : Keys) (text : List ℕ) (result : Result (Vec ℕ A) ValueError) → IsUtf8 text
    → IfOk result (λ bytes. IsCanonicalOf mode text bytes.items) → IfErr result (ExplainsValueError mode text) → IsFound mode text (found_of result)
right_found mode text (Ok bytes) is_text written why = (is_text, written)
right_found mode text (Err error) is_text written why = (is_text, why)

-- the error of a call, as it is told
pub right_error : (mode given : Keys) (bytes : List ℕ) (error told : ReadError) → mode ≡ given → error ≡ told
    → ((error ≡ errors.Memory)
    ⊎ ((value : TypedValue) → CanBeRead value → KeysAllow mode value → encode (Some utf8) (document_text value) ≢ bytes))
    → IsPlacedBy mode bytes error → IsReading given bytes (Some told)
right_error mode given bytes error told same is complete placed =
    subst (λ (m : Keys). IsReading m bytes (Some told)) same (subst (λ (e : ReadError). IsReading mode bytes (Some e)) is (complete, placed))
