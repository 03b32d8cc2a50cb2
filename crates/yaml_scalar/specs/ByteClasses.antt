-- Classes of bytes, and runs of bytes of none of them.
use Rattle.std.specs.Prelude.{◌≡◌, ℕ, Bool, true, false, List, ◌==◌, ◌<◌, ◌≤◌, length, slice_index, take}
use Rattle.std.specs.Char.{IsScalar}
use Rattle.std.specs.Int.Bits.{bit_and}
use Rattle.std.specs.List.{list_all}
use Rattle.std.specs.Prelude.{encode_utf8}
use Rattle.yaml_scalar.specs.declared.classes.TheConstants.{CLASSES}

-- true for a byte of none of these classes
abbrev pub is_free : (classes : ℕ) → ℕ → Bool
is_free classes byte = bit_and (slice_index CLASSES byte) classes == 0

-- the longest prefix of a text none of whose bytes is of these classes
pub record IsFreeRun (classes : ℕ) (text : List ℕ) (size : ℕ) : Type 0 where
  pub within : size ≤ length text
  pub all : list_all (is_free classes) (take size text) ≡ true
  pub stops : size < length text → is_free classes (slice_index text size) ≡ false

-- a character passes a test if none of its bytes is of these classes
abbrev pub ImpliesTest : (classes : ℕ) → (ℕ → Bool) → Type 0
ImpliesTest classes test = (c : ℕ) → IsScalar c → list_all (is_free classes) (encode_utf8 c) ≡ true → test c ≡ true
