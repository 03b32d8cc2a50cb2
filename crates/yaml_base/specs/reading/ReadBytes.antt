-- Bytes to characters: UTF-16 by the byte order mark that a stream begins with, else UTF-8.
-- Source, unless a definition names its own: YAML 1.1, section 5.2 Character Encoding, c-byte-order-mark.
use Rattle.std.specs.Prelude.{ℕ, Bool, true, false, Option, None, Some, List, [], ◌∷◌, ◌==◌, ◌&&◌, ◌+◌, ◌*◌, chars, option_map, option_and_then, if◌then◌else◌}
use Rattle.std.specs.Str.{is_utf8}
use Rattle.std.specs.Char.Utf16.{is_high_surrogate, is_low_surrogate, surrogate_pair_char}
use Rattle.yaml_base.specs.Characters.{Text}

-- bytes in pairs as code units, each with its upper byte first or second; none if a byte is left over (RFC 2781, section 3.1)
abbrev pub units_read : (upper_first : Bool) → List ℕ → Option (List ℕ)
units_read upper_first [] = Some []
units_read upper_first (byte ∷ []) = None
units_read upper_first (a ∷ b ∷ rest) =
    option_map (λ units. (if upper_first then a * 0x100 + b else b * 0x100 + a) ∷ units) (units_read upper_first rest)

-- the characters of code units, after one that begins a pair or none; none if a surrogate has no partner (RFC 2781, section 2.2)
abbrev pub utf16_read : (high : Option ℕ) → List ℕ → Option Text
utf16_read None [] = Some []
utf16_read (Some high) [] = None
utf16_read None (unit ∷ rest) =
    if is_high_surrogate unit then utf16_read (Some unit) rest
    else (if is_low_surrogate unit then None else option_map (λ text. unit ∷ text) (utf16_read None rest))
utf16_read (Some high) (unit ∷ rest) =
    if is_low_surrogate unit then option_map (λ text. surrogate_pair_char high unit ∷ text) (utf16_read None rest) else None

-- the characters of UTF-8 (RFC 3629)
abbrev pub utf8_read : List ℕ → Option Text
utf8_read bytes = if is_utf8 bytes then Some (chars bytes) else None

-- the characters of a stream: UTF-16 by the byte order mark that it begins with, else UTF-8 (YAML 1.1, section 5.2 Character Encoding, c-byte-order-mark)
abbrev pub characters_read : List ℕ → Option Text
characters_read (a ∷ b ∷ rest) =
    if a == 0xFE && b == 0xFF then option_and_then (utf16_read None) (units_read true rest)
    else (if a == 0xFF && b == 0xFE then option_and_then (utf16_read None) (units_read false rest) else utf8_read (a ∷ b ∷ rest))
characters_read bytes = utf8_read bytes
