-- Keys that repeat, and their places.
use Rattle.std.specs.Prelude.{ℕ, ◌+◌, ◌≡◌, List, ◌∷◌, ◌++◌, codes, length}
use Rattle.std.specs.Str.{encode_utf8_all}
use Rattle.yaml_base.specs.values.TypedValues.{TypedPairs, TypedValue}
use Rattle.yaml_base.specs.values.UniqueKeys.{IsNewKey}
use Rattle.yaml_base.specs.graphs.DumpedText.{line_at, value_text}
use Rattle.yaml_value.specs.OpenLevels.{OpenLevel, pairs_open}
use Rattle.yaml_value.specs.declared.keys.Keys.{Keys}
use Rattle.yaml_value.specs.declared.keys.Keys.TheVariants as keys
use Rattle.yaml_read.specs.AllowedKeys.{OpenHasUniqueKeys}
use Rattle.yaml_read.specs.Opened.{IsOpen}
use Rattle.yaml_read.specs.Places.{IsBehindMarker, IsDepthPlace, IsPlaceOf, IsWordPlace}
use Rattle.yaml_read.specs.Remaining.{column_in}
use Rattle.yaml_read.specs.declared.errors.ReadError.{ReadError}
use Rattle.yaml_read.specs.declared.errors.ReadError.TheVariants as told

-- The bytes of a key in a map whose entries are at a column, up to its value.
abbrev pub key_bytes : (column : ℕ) → (key : TypedValue) → List ℕ
key_bytes column key = encode_utf8_all (value_text column key ++ (line_at column ++ codes ": "))

-- So far before the end, after a document's first line, a key begins that its map has already, and `: ` follows it. No key repeats before it.
pub record RepeatsKey (whole : List ℕ) (left : ℕ) : Type 0 where
  pub pairs : TypedPairs
  pub outer : List OpenLevel
  pub text : List ℕ
  pub opened : IsOpen whole (pairs_open pairs ∷ outer) text
  pub unique : OpenHasUniqueKeys (pairs_open pairs ∷ outer)
  pub place : left ≡ length text
  pub key : TypedValue
  pub rest : List ℕ
  pub begins : text ≡ key_bytes (column_in outer + 2) key ++ rest
  pub again : IsNewKey pairs key → ⊥

-- An error has the position at which the bytes stop to be UTF-8, or else of the first word that is impossible there, of the first list or
-- map that lies too deep, or, if keys must differ, of the first key that its map has already.
abbrev pub IsPlacedBy : Keys → (bytes : List ℕ) → ReadError → Type 0
IsPlacedBy mode bytes (told.NotCanonical position) = IsWordPlace mode bytes position
IsPlacedBy mode bytes (told.TooDeep position) = IsDepthPlace mode bytes position
IsPlacedBy mode bytes (told.DuplicateKey position) =
    (mode ≡ keys.Unique) × IsPlaceOf (λ left. IsBehindMarker bytes (λ whole. RepeatsKey whole left)) bytes position
IsPlacedBy mode bytes told.NotNumbered = ⊥
IsPlacedBy mode bytes told.Memory = Unit {0}
