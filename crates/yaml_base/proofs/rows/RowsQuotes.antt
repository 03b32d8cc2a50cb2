-- Worked rows of double quotes in place of single ones, computed, each beside its text without the setting.
use Rattle.yaml_base.proofs.Common.{codes, true, List, [], ◌∷◌, refl, ◌≡◌, Text, plain, single_quoted, literal, block, flow, Event, Settings}
use Rattle.std.specs.{Char.encode_utf8}
use Rattle.yaml_base.proofs.rows.RowEvents.{plain_settings, canonical_settings, untagged, leaf, sequence, mapping, alone, rendered_under, rendered}

abbrev double_settings : Settings
double_settings = record plain_settings { double_quotes = true }

abbrev doubled : List Event → Text
doubled events = rendered_under double_settings (alone events)

abbrev singly : List Event → Text
singly events = rendered (alone events)

-- a scalar for which single quotes are asked
asked_for : (doubled (untagged (codes "no") single_quoted ∷ []) ≡ codes "\"no\"\n") × (singly (untagged (codes "no") single_quoted ∷ []) ≡ codes "'no'\n")
asked_for = (refl, refl)

-- one that can't be plain, at the root, with an apostrophe, and with a quotation mark
barred_from_plain : (doubled (leaf (codes "a: b") ∷ []) ≡ codes "\"a: b\"\n") × (singly (leaf (codes "a: b") ∷ []) ≡ codes "'a: b'\n")
    × (doubled (untagged (codes "# it's") plain ∷ []) ≡ codes "\"# it's\"\n") × (singly (untagged (codes "# it's") plain ∷ []) ≡ codes "'# it''s'\n")
    × (doubled (leaf (codes "\"a\"") ∷ []) ≡ codes "\"\\\"a\\\"\"\n") × (singly (leaf (codes "\"a\"") ∷ []) ≡ codes "'\"a\"'\n")
barred_from_plain = (refl, refl, refl, refl, refl, refl)

-- an empty key, and a comma in flow and in a block, in which it may be plain
in_collections : (doubled (mapping block (leaf [] ∷ leaf (codes "v") ∷ [])) ≡ codes "\"\": v\n")
    × (singly (mapping block (leaf [] ∷ leaf (codes "v") ∷ [])) ≡ codes "'': v\n")
    × (doubled (sequence flow (leaf (codes "a,b") ∷ [])) ≡ codes "[\"a,b\"]\n") × (singly (sequence flow (leaf (codes "a,b") ∷ [])) ≡ codes "['a,b']\n")
    × (doubled (sequence block (leaf (codes "a,b") ∷ [])) ≡ codes "- a,b\n")
unfolding encode_utf8
in_collections = (refl, refl, refl, refl, refl)

-- other styles stay, and so does canonical form
others : (doubled (leaf (codes "a") ∷ []) ≡ codes "a\n") × (doubled (untagged (codes "a\nb\n") literal ∷ []) ≡ codes "|\n  a\n  b\n")
    × (rendered_under (record canonical_settings { double_quotes = true }) (alone (leaf (codes "no") ∷ [])) ≡ codes "---\n\"no\"\n")
others = (refl, refl, refl)
