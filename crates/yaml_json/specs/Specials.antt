-- Which bytes may change a scan within an array, an object or a string.
use Rattle.std.specs.Prelude.{◌≡◌, ℕ, ◌<◌, ◌⊎◌, Bool, false, ◌||◌, ◌==◌, List, get_or}
use Rattle.std.specs.Int.{bit_at}
use Rattle.json.specs.Ascii as ascii
use Rattle.yaml_json.specs.declared.cuts.Mode.TheVariants.{Within, InString}
use Rattle.yaml_json.specs.declared.cuts.Scan.{Scan}
use Rattle.yaml_json.specs.Texts.{is_closer, is_opener}

-- more of an array, an object or a string comes next
abbrev pub IsInside : Scan → Type 0
IsInside scan = (scan.mode ≡ Within) ⊎ (scan.mode ≡ InString)

-- it may change such a scan
abbrev pub may_change_scan : ℕ → Bool
may_change_scan byte = (byte == ascii.quote) || (byte == ascii.backslash) || is_opener byte || is_closer byte

-- of 32 bytes, only those whose bits are set may be special
abbrev pub MayBeSpecial : (bytes : List ℕ) (bits : ℕ) → Type 0
MayBeSpecial bytes bits = (k : ℕ) → k < 32 → bit_at bits k ≡ 0 → may_change_scan (get_or bytes k 0) ≡ false
