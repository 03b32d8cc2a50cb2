-- Texts as bytes: UTF-8 (RFC 3629) and UTF-16 (RFC 2781); and the bytes that a limit leaves.
use Rattle.std.specs.Prelude.{◌≡◌, ℕ, true, Option, None, Some, List, [], ◌∷◌, ◌++◌, ◌+◌, ◌-◌, ◌/◌, ◌%◌, nat_lt, take, encode_utf8, if◌then◌else◌}
use Rattle.std.specs.Str.{all_scalars}
use Rattle.yaml_base.specs.Characters.{Text, byte_order_mark}
use Rattle.yaml_base.specs.Settings.{Encoding, utf8, utf16_little, utf16_big}

-- the code units of a character: itself, or from U+10000 on a pair of surrogates (RFC 2781, section 2.1)
abbrev pub utf16_units : ℕ → List ℕ
utf16_units c =
    let v = c - 0x10000 in
    if nat_lt c 0x10000 then c ∷ [] else (0xD800 + v / 0x400) ∷ (0xDC00 + v % 0x400) ∷ []

-- code units as bytes, each with its upper byte first (RFC 2781, section 3.1)
abbrev pub upper_first : List ℕ → List ℕ
upper_first [] = []
upper_first (unit ∷ rest) = (unit / 0x100) ∷ (unit % 0x100) ∷ upper_first rest

-- code units as bytes, each with its lower byte first (RFC 2781, section 3.1)
abbrev pub lower_first : List ℕ → List ℕ
lower_first [] = []
lower_first (unit ∷ rest) = (unit % 0x100) ∷ (unit / 0x100) ∷ lower_first rest

-- the bytes of a character (UTF-8: RFC 3629, section 3)
abbrev pub character_bytes : Encoding → ℕ → List ℕ
character_bytes utf8 c = encode_utf8 c
character_bytes utf16_little c = lower_first (utf16_units c)
character_bytes utf16_big c = upper_first (utf16_units c)

-- the bytes of a text's characters, one after another
abbrev pub text_bytes : Encoding → Text → List ℕ
text_bytes encoding [] = []
text_bytes encoding (c ∷ rest) = character_bytes encoding c ++ text_bytes encoding rest

-- the byte order mark of an encoding: UTF-16 begins with one, UTF-8 has none (RFC 2781, section 3.2)
abbrev pub bom_text : Encoding → Text
bom_text utf8 = []
bom_text _ = byte_order_mark ∷ []

-- a text as a stream of bytes; before its encoding is known a stream is empty
abbrev pub encode : Option Encoding → Text → List ℕ
encode None text = []
encode (Some encoding) text = text_bytes encoding (bom_text encoding ++ text)

-- the first `limit` bytes, or all if there are fewer
abbrev pub cut : ℕ → List ℕ → List ℕ
cut limit bytes = take limit bytes

-- in one encoding different texts of Unicode scalar values have different bytes
abbrev pub OneText : Type 0
OneText =
    (encoding : Encoding) (t u : Text) → all_scalars t ≡ true → all_scalars u ≡ true
    → encode (Some encoding) t ≡ encode (Some encoding) u → t ≡ u
