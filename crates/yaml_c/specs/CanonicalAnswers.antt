-- The results of the function that checks canonical bytes.
use Rattle.std.specs.Prelude.{◌≡◌, ◌≢◌, ◌⊎◌, ℕ, ℤ, pos, List, Option, None, Some, if◌then◌else◌}
use Rattle.yaml_base.specs.Encoding.{encode}
use Rattle.yaml_base.specs.Settings.{utf8}
use Rattle.yaml_base.specs.values.TypedValues.{TypedValue, WritesValue}
use Rattle.yaml_base.specs.graphs.DumpedText.{document_text}
use Rattle.yaml_value.specs.declared.keys.Keys.{Keys}
use Rattle.yaml_value.specs.declared.keys.Keys.TheVariants as keys
use Rattle.yaml_read.specs.AllowedKeys.{KeysAllow}
use Rattle.yaml_read.specs.Readable.{CanBeRead}
use Rattle.yaml_read.specs.RepeatedKeys.{IsPlacedBy}
use Rattle.yaml_read.specs.declared.errors.ReadError.{ReadError}
use Rattle.yaml_read.specs.declared.errors.ReadError.TheVariants as errors
use Rattle.yaml_c.specs.Answers.{at_place, nothing_reported}
use Rattle.yaml_c.specs.Arena.{is_off}
use Rattle.yaml_c.specs.declared.canonical.CanonicalOptions.{CanonicalOptions}
use Rattle.yaml_c.specs.declared.results.CallResult.{CallResult}

-- Whether the keys of a map must differ.
abbrev pub keys_given : CanonicalOptions → Keys
keys_given given = if is_off given.allow_duplicates then keys.Unique else keys.MayRepeat

-- True of bytes and of the error of `read_canonical_with`, if any. Without an error the bytes are those of a value, in which no map has a
-- key twice if keys must differ. With one they are the bytes of no such value that can be read, unless memory ran out, and the error has its
-- place: that of the first byte that isn't UTF-8, or else of the first word that no canonical bytes have there, of the first list or map that
-- lies too deep, or, if keys must differ, of the first key that its map has already.
abbrev pub IsReading : Keys → (bytes : List ℕ) → Option ReadError → Type 0
IsReading mode bytes None = (value : TypedValue) × WritesValue value bytes × KeysAllow mode value
IsReading mode bytes (Some error) =
    ((error ≡ errors.Memory)
    ⊎ ((value : TypedValue) → CanBeRead value → KeysAllow mode value → encode (Some utf8) (document_text value) ≢ bytes))
    × IsPlacedBy mode bytes error

-- True if the status and the report are those of the error: 0 without one; 10 if the bytes aren't canonical, 6 if lists and maps nest
-- too deep, and 7 if a map has a key twice, all three with the place; 3 if memory ran out.
abbrev pub IsTold : Option ReadError → (status : ℤ) → CallResult → Type 0
IsTold None status report = (status ≡ pos 0) × (report ≡ nothing_reported)
IsTold (Some (errors.NotCanonical position)) status report = (status ≡ pos 10) × (report ≡ at_place position)
IsTold (Some (errors.TooDeep position)) status report = (status ≡ pos 6) × (report ≡ at_place position)
IsTold (Some (errors.DuplicateKey position)) status report = (status ≡ pos 7) × (report ≡ at_place position)
IsTold (Some errors.NotNumbered) status report = ⊥
IsTold (Some errors.Memory) status report = (status ≡ pos 3) × (report ≡ nothing_reported)

-- True if these results are those of a check of the bytes by these options.
abbrev pub IsCheck : CanonicalOptions → (bytes : List ℕ) → (status : ℤ) → CallResult → Type 0
IsCheck given bytes status report = (answer : Option ReadError) × IsReading (keys_given given) bytes answer × IsTold answer status report
