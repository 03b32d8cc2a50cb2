-- Texts as bytes, computed.
use Rattle.yaml_base.proofs.Common.{None, Some, codes, [], ◌∷◌, refl, encode, cut, utf8, utf16_little, utf16_big}
use Rattle.std.specs.Char.{encode_utf8}
use Rattle.yaml_base.proofs.rows.Cases.{GivesOfTwo}

encodings : GivesOfTwo encode (
    (Some utf16_little, 0x1F600 ∷ [], 0xFF ∷ 0xFE ∷ 0x3D ∷ 0xD8 ∷ 0x00 ∷ 0xDE ∷ [])  -- face little
    ∷ (Some utf16_big, 0x1F600 ∷ [], 0xFE ∷ 0xFF ∷ 0xD8 ∷ 0x3D ∷ 0xDE ∷ 0x00 ∷ [])  -- face big
    ∷ (Some utf8, 0x1F600 ∷ [], 0xF0 ∷ 0x9F ∷ 0x98 ∷ 0x80 ∷ [])  -- face utf8
    ∷ (Some utf16_little, 0xE9 ∷ [], 0xFF ∷ 0xFE ∷ 0xE9 ∷ 0x00 ∷ [])  -- accent little
    ∷ (Some utf16_big, 0xE9 ∷ [], 0xFE ∷ 0xFF ∷ 0x00 ∷ 0xE9 ∷ [])  -- accent big
    ∷ (Some utf8, 0xE9 ∷ [], 0xC3 ∷ 0xA9 ∷ [])  -- accent utf8
    -- the last character that is no pair
    ∷ (Some utf16_big, 0xFFFF ∷ 0x10000 ∷ [], 0xFE ∷ 0xFF ∷ 0xFF ∷ 0xFF ∷ 0xD8 ∷ 0x00 ∷ 0xDC ∷ 0x00 ∷ [])  -- last unit
    ∷ (None, 97 ∷ [], [])  -- unknown encoding
    ∷ [])
unfolding encode_utf8
encodings = refl

-- a limit leaves a character's first bytes
cuts : GivesOfTwo cut (
    (3, encode (Some utf16_big) (codes "a\n"), 0xFE ∷ 0xFF ∷ 0x00 ∷ [])  -- cut inside
    ∷ (9, encode (Some utf16_big) (codes "a"), 0xFE ∷ 0xFF ∷ 0x00 ∷ 0x61 ∷ [])  -- cut past the end
    ∷ [])
cuts = refl
