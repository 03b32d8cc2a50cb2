-- Entries of a store.
use Rattle.std.specs.Prelude.{◌≡◌, ◌<◌, ℕ, List}
use Rattle.sha2.specs.Sha256.{sha256}
use Rattle.yaml_base.specs.values.TypedValues.{TypedValue, WritesValue, most_nested, nesting}
use Rattle.yaml_value.specs.declared.keys.Keys.{Keys}
use Rattle.yaml_read.specs.AllowedKeys.{KeysAllow}
use Rattle.yaml_read.specs.RepeatedKeys.{IsPlacedBy}
use Rattle.yaml_caller.specs.declared.store.OpenError.{OpenError}
use Rattle.yaml_caller.specs.declared.store.OpenError.TheVariants.{DigestDiffers, NotRead}
use Rattle.yaml_caller.specs.declared.store.SealError.{SealError}
use Rattle.yaml_caller.specs.declared.store.SealError.TheVariants.{DuplicateKey, Memory, TooDeep}

-- True if the bytes are the canonical bytes of the value, and the digest is their SHA-256.
pub record IsEntryOf (value : TypedValue) (bytes digest : List ℕ) : Type 0 where
  pub written : WritesValue value bytes
  pub digested : digest ≡ sha256 bytes

-- True of `TooDeep` if the value nests too deep, of `DuplicateKey` if a map in it has a key twice and keys must differ, and of `Memory`.
abbrev pub IsSealErrorOf : Keys → TypedValue → SealError → Type 0
IsSealErrorOf mode value TooDeep = most_nested < nesting value
IsSealErrorOf mode value DuplicateKey = KeysAllow mode value → ⊥
IsSealErrorOf mode value Memory = Unit {0}

-- True of `DigestDiffers`, and of an error of reading that has its place in the bytes.
abbrev pub TellsPlace : Keys → (bytes : List ℕ) → OpenError → Type 0
TellsPlace mode bytes DigestDiffers = Unit {0}
TellsPlace mode bytes (NotRead error) = IsPlacedBy mode bytes error
