-- The text of written bytes, for callers that have the bytes alone (RFC 3629; RFC 2781, section 2.2).
use Rattle.std.specs.Prelude.{ℕ, Option, None, Some, List, [], ◌∷◌, ◌+◌, ◌-◌, ◌*◌, nat_le, nat_lt, ◌&&◌, drop, if◌then◌else◌}
use Rattle.std.specs.Str.{chars}
use Rattle.yaml_base.specs.Characters.{Text}
use Rattle.yaml_base.specs.Settings.{Encoding, utf8, utf16_little, utf16_big}

-- bytes as code units, each with its upper byte first
abbrev pub units_upper_first : List ℕ → List ℕ
units_upper_first [] = []
units_upper_first (upper ∷ []) = []
units_upper_first (upper ∷ lower ∷ rest) = (upper * 0x100 + lower) ∷ units_upper_first rest

-- bytes as code units, each with its lower byte first
abbrev pub units_lower_first : List ℕ → List ℕ
units_lower_first [] = []
units_lower_first (lower ∷ []) = []
units_lower_first (lower ∷ upper ∷ rest) = (upper * 0x100 + lower) ∷ units_lower_first rest

-- the text of code units; a unit from U+D800 to U+DBFF is the first of a pair (RFC 2781, section 2.2)
abbrev pub text_of_units : List ℕ → Text
text_of_units [] = []
text_of_units (unit ∷ []) = unit ∷ []
text_of_units (unit ∷ next ∷ rest) =
    if nat_le 0xD800 unit && nat_lt unit 0xDC00 then (0x10000 + (unit - 0xD800) * 0x400 + (next - 0xDC00)) ∷ text_of_units rest
    else unit ∷ text_of_units (next ∷ rest)

-- the characters of bytes
abbrev pub text_of_bytes : Encoding → List ℕ → Text
text_of_bytes utf8 bytes = chars bytes
text_of_bytes utf16_little bytes = text_of_units (units_lower_first bytes)
text_of_bytes utf16_big bytes = text_of_units (units_upper_first bytes)

-- the text of a stream; its byte order mark, if any, is two bytes
unfoldable pub decode : Option Encoding → List ℕ → Text
decode None bytes = []
decode (Some utf8) bytes = text_of_bytes utf8 bytes
decode (Some utf16_little) bytes = text_of_bytes utf16_little (drop 2 bytes)
decode (Some utf16_big) bytes = text_of_bytes utf16_big (drop 2 bytes)
