-- Written texts, computed: the characters that may be raw in them, and values with U+2028 under the line breaks of YAML 1.2.
use Rattle.yaml_base.proofs.Common.{codes, false, true, [], map, ◌++◌, ◌∷◌, refl, ◌≡◌, list_all, list_any, Text, plain, single_quoted, double_quoted, literal}
use Rattle.yaml_base.{proofs.Common.folded, proofs.Common.block, proofs.Common.Settings, specs.WrittenTexts.is_separator, specs.WrittenTexts.is_written_raw}
use Rattle.yaml_base.proofs.rows.RowEvents.{unicode_settings, untagged, leaf, sequence, mapping, alone, rendered_under}

-- U+2028 and U+2029 alone are separators
separators : map is_separator (0xA ∷ 0x85 ∷ 0x2027 ∷ 0x2028 ∷ 0x2029 ∷ 0x202A ∷ []) ≡ false ∷ false ∷ false ∷ true ∷ true ∷ false ∷ []
separators = refl

-- LF, CR, the space, letters and U+2028 may be raw; NUL, a tab, U+0085, a surrogate and the byte order mark may not, but a tab may if blanks are
-- literal
raw_characters : (list_all (is_written_raw false) (codes "a b\r\n" ++ 0xE9 ∷ 0x2028 ∷ 0x1F600 ∷ []) ≡ true)
    × (map (is_written_raw false) (0 ∷ 9 ∷ 0x85 ∷ 0xD800 ∷ 0xFEFF ∷ 0x110000 ∷ []) ≡ false ∷ false ∷ false ∷ false ∷ false ∷ false ∷ [])
    × (map (is_written_raw true) (0 ∷ 9 ∷ 0x85 ∷ 13 ∷ []) ≡ false ∷ true ∷ false ∷ true ∷ [])
raw_characters = (refl, refl, refl)

-- all characters may be written raw, and U+2028 and U+2029 break no lines
abbrev breaks12_settings : Settings
breaks12_settings = record unicode_settings { breaks12 = true }

-- a value with U+2028, and one with U+2029
abbrev separated : Text
separated = codes "a\u{2028}b"

abbrev parted : Text
parted = codes "a\u{2029}b"

-- at the root it is written in double quotes, whatever the style
at_root : (rendered_under breaks12_settings (alone (untagged separated single_quoted ∷ [])) ≡ codes "\"a\\Lb\"\n")
    × (rendered_under breaks12_settings (alone (untagged separated literal ∷ [])) ≡ codes "\"a\\Lb\"\n")
    × (rendered_under breaks12_settings (alone (untagged separated folded ∷ [])) ≡ codes "\"a\\Lb\"\n")
    × (rendered_under breaks12_settings (alone (untagged separated plain ∷ [])) ≡ codes "\"a\\Lb\"\n")
    × (rendered_under breaks12_settings (alone (untagged separated double_quoted ∷ [])) ≡ codes "\"a\\Lb\"\n")
    × (rendered_under breaks12_settings (alone (untagged parted single_quoted ∷ [])) ≡ codes "\"a\\Pb\"\n")
at_root = (refl, refl, refl, refl, refl, refl)

-- and so it is as a key in a block, and in flow
as_key : (rendered_under breaks12_settings (alone (mapping block (untagged separated single_quoted ∷ leaf (codes "v") ∷ []))) ≡ codes "? \"a\\Lb\"\n: v\n")
    × (rendered_under breaks12_settings (alone (mapping block (untagged separated literal ∷ leaf (codes "v") ∷ []))) ≡ codes "? \"a\\Lb\"\n: v\n")
    × (rendered_under breaks12_settings (alone (sequence block (untagged parted literal ∷ []))) ≡ codes "- \"a\\Pb\"\n")
as_key = (refl, refl, refl)

-- without the option the same value keeps it raw
kept : list_any is_separator (rendered_under unicode_settings (alone (untagged separated single_quoted ∷ []))) ≡ true
kept = refl
