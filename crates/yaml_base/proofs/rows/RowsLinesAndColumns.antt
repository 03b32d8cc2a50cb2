-- Lines and columns of offsets, computed.
use Rattle.yaml_base.{specs.values.LinesAndColumns.line_of, specs.values.LinesAndColumns.column_of, proofs.rows.Cases.GivesOfTwo}
use Rattle.yaml_base.proofs.Common.{ℕ, List, codes, [], ◌∷◌, ◌++◌, refl}

-- the line and the column of an offset
abbrev place : List ℕ → ℕ → ℕ × ℕ
place text offset = (line_of text offset, column_of text offset)

-- no text, and one line
one_line : GivesOfTwo place (
    ([], 0, (1, 1))
    ∷ ([], 5, (1, 1))  -- past the end
    ∷ (codes "abc", 0, (1, 1))
    ∷ (codes "abc", 2, (1, 3))
    ∷ (codes "abc", 3, (1, 4))  -- the end
    ∷ (codes "abc", 9, (1, 4))  -- past the end
    ∷ [])
one_line = refl

-- an LF is the last of its line; only an LF ends one
lines : GivesOfTwo place (
    (codes "ab\ncd", 2, (1, 3))  -- the LF
    ∷ (codes "ab\ncd", 3, (2, 1))
    ∷ (codes "ab\ncd", 4, (2, 2))
    ∷ (codes "ab\ncd", 5, (2, 3))  -- the end
    ∷ (codes "ab\ncd", 6, (2, 3))  -- past the end
    ∷ (codes "\n\n", 0, (1, 1))
    ∷ (codes "\n\n", 1, (2, 1))
    ∷ (codes "\n\n", 2, (3, 1))
    ∷ (codes "a\r\nb\rc", 2, (1, 3))  -- after CR
    ∷ (codes "a\r\nb\rc", 5, (2, 3))
    ∷ [])
lines = refl

-- é, €, 😀 and a: characters of two, three and four bytes, and one
abbrev wide : List ℕ
wide = 0xC3 ∷ 0xA9 ∷ 0xE2 ∷ 0x82 ∷ 0xAC ∷ 0xF0 ∷ 0x9F ∷ 0x98 ∷ 0x80 ∷ codes "a"

-- a character takes one column, however many bytes it has; an offset within one counts as after it
wide_characters : GivesOfTwo place (
    (wide, 1, (1, 2))  -- within é
    ∷ (wide, 2, (1, 2))
    ∷ (wide, 4, (1, 3))  -- within €
    ∷ (wide, 5, (1, 3))
    ∷ (wide, 6, (1, 4))  -- within the face
    ∷ (wide, 8, (1, 4))
    ∷ (wide, 9, (1, 4))
    ∷ (wide, 10, (1, 5))
    ∷ (wide ++ codes "\n" ++ wide, 10, (1, 5))  -- the LF
    ∷ (wide ++ codes "\n" ++ wide, 11, (2, 1))
    ∷ (wide ++ codes "\n" ++ wide, 16, (2, 3))
    ∷ [])
wide_characters = refl

-- bytes that aren't UTF-8: 128 to 191 begin no character, the others do
no_text : GivesOfTwo place (
    (0x80 ∷ 0xBF ∷ codes "a", 2, (1, 1))
    ∷ (0x80 ∷ 0xBF ∷ codes "a", 3, (1, 2))
    ∷ (0xC0 ∷ 0xFF ∷ codes "a", 2, (1, 3))
    ∷ (codes "\n" ++ 0x7F ∷ 0x80 ∷ 0xFF ∷ [], 4, (2, 3))
    ∷ [])
no_text = refl
