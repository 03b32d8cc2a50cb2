-- Bytes of ASCII that are no control characters.
use Rattle.std.specs.Prelude.{◌≡◌, ℕ, Bool, false, ◌||◌, ◌<◌, List, length, nat_le, nat_lt, slice_index}

-- true for a byte beyond ASCII, or a control character
abbrev pub is_unclean : ℕ → Bool
is_unclean byte = nat_le 0x80 byte || nat_lt byte 0x20

-- a text has no such byte
abbrev pub IsClean : List ℕ → Type 0
IsClean bytes = (k : ℕ) → k < length bytes → is_unclean (slice_index bytes k) ≡ false
