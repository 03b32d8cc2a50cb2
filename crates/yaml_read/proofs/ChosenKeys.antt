-- Which values are told to have none of some bytes, by whether keys must differ.
use Rattle.yaml_read.proofs.Common.{ℕ, ◌<◌, List, ◌≡◌, sym, inl, inr, encode, utf8, Some, false, true≢false, ◌⊎◌, TypedValue, WritesValue, most_nested, nesting}
use Rattle.yaml_read.proofs.Common.{HasUniqueKeys, document_text, seen_value, Value, Keys, KeysAllow, IsJust, CanBeRead, ReadError}
use Rattle.std.{specs.Prelude.◌≢◌, specs.Bool.Decides}
use Rattle.yaml_read.proofs.ReadBack.{written_readable}
use Rattle.yaml_value.specs.declared.keys.Keys.TheVariants as keys
use Rattle.yaml_read.specs.declared.errors.ReadError.TheVariants as told

-- memory gave out, or no value with keys as they must be has these bytes
abbrev pub NoneAllowed : Keys → List ℕ → ReadError → Type 0
NoneAllowed mode bytes error =
    (error ≡ told.Memory) ⊎ ((value : TypedValue) → CanBeRead value → KeysAllow mode value → encode (Some utf8) (document_text value) ≢ bytes)

-- if keys may repeat, no value has them
pub none_just : (bytes : List ℕ) (error : ReadError) → NoneAllowed keys.MayRepeat bytes error → IsJust bytes error
none_just bytes error (inl memory) = inl memory
none_just bytes error (inr none) = inr (λ value readable. none value readable tt)

-- a value that was written was not read, and memory sufficed, so a map has a key twice
pub repeat_told : {A : Type 0} (value : Value A) (bytes : List ℕ) (error : ReadError) → WritesValue (seen_value value) bytes
    → ¬ (most_nested < nesting (seen_value value)) → bytes ≡ encode (Some utf8) (document_text (seen_value value))
    → NoneAllowed keys.Unique bytes error → (error ≡ told.Memory → ⊥) → Decides false (HasUniqueKeys (seen_value value))
repeat_told value bytes error written shallow layout (inl memory) other = absurd (other memory)
repeat_told {A} value bytes error written shallow layout (inr none) other = (
  (λ is. absurd (true≢false (sym is))),
  (λ unique. absurd (none (seen_value value) (written_readable A value bytes written shallow) unique (sym layout))),
)
