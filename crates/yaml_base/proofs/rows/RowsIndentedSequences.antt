-- Worked rows of indented sequences, computed, each beside its text when they are undented.
use Rattle.yaml_base.proofs.Common.{None, Some, codes, pos, replicate, false, true, List, [], ◌++◌, ◌∷◌, refl, ◌≡◌, Text, literal, block, flow, Event}
use Rattle.yaml_base.proofs.Common.{sequence_start, sequence_end, Settings, agrees, stream_trees}
use Rattle.std.specs.{Char.encode_utf8, Str.chars, Str.is_utf8}
use Rattle.yaml_base.proofs.rows.RowEvents.{plain_settings, canonical_settings, of_indent, untagged, leaf, sequence, mapping, alone, rendered_under, rendered}

abbrev indented_settings : Settings
indented_settings = record plain_settings { indented_sequences = true }

abbrev indented : List Event → Text
indented events = rendered_under indented_settings (alone events)

-- with an indent of 4
abbrev by_four : List Event → Text
by_four events = rendered_under (record indented_settings { indent = Some (pos 4) }) (alone events)

-- without the setting, and with an indent of 4
abbrev undented : List Event → Text
undented events = rendered (alone events)

abbrev undented_by_four : List Event → Text
undented_by_four events = rendered_under (of_indent (pos 4)) (alone events)

-- a sequence of one item, with an anchor or with a tag
abbrev anchored : List Event
anchored = sequence_start (record { anchor = Some (codes "x"); tag = None; implicit = true; style = block }) ∷ leaf (codes "b") ∷ sequence_end ∷ []

abbrev of_tag : List Event
of_tag = sequence_start (record { anchor = None; tag = Some (codes "!t"); implicit = false; style = block }) ∷ leaf (codes "b") ∷ sequence_end ∷ []

abbrev two_items : List Event
two_items = sequence block (leaf (codes "b") ∷ leaf (codes "c") ∷ [])

-- a value after a simple key, and the key after it
abbrev as_value : List Event
as_value = mapping block (leaf (codes "a") ∷ two_items ++ (leaf (codes "d") ∷ leaf (codes "e") ∷ []))

after_a_simple_key : (indented as_value ≡ codes "a:\n  - b\n  - c\nd: e\n") × (undented as_value ≡ codes "a:\n- b\n- c\nd: e\n")
    × (by_four as_value ≡ codes "a:\n    - b\n    - c\nd: e\n") × (undented_by_four as_value ≡ codes "a:\n- b\n- c\nd: e\n")
unfolding encode_utf8
after_a_simple_key = (refl, refl, refl, refl)

-- a key that isn't simple: both ways alike, since the items begin on the line of its sign
abbrev as_key : List Event
as_key = mapping block (two_items ++ (leaf (codes "v") ∷ []))

as_a_complex_key : (indented as_key ≡ codes "? - b\n  - c\n: v\n") × (undented as_key ≡ codes "? - b\n  - c\n: v\n")
    × (by_four as_key ≡ codes "?   - b\n    - c\n: v\n") × (undented_by_four as_key ≡ codes "?   - b\n    - c\n: v\n")
unfolding encode_utf8
as_a_complex_key = (refl, refl, refl, refl)

-- after the sign of a value likewise
abbrev after_long_key : List Event → List Event
after_long_key value = mapping block (leaf (replicate 129 120) ∷ value)

abbrev long_key_written : Text → Text
long_key_written value = codes "? " ++ (replicate 129 120 ++ value)

after_a_complex_key : (indented (after_long_key two_items) ≡ long_key_written (codes "\n: - b\n  - c\n"))
    × (undented (after_long_key two_items) ≡ long_key_written (codes "\n: - b\n  - c\n"))
    × (indented (after_long_key anchored) ≡ long_key_written (codes "\n: &x\n  - b\n"))
    × (undented (after_long_key anchored) ≡ long_key_written (codes "\n: &x\n- b\n"))
unfolding encode_utf8
after_a_complex_key = (refl, refl, refl, refl)

-- after an anchor or a tag its items begin on a new line
abbrev value_of : List Event → List Event
value_of value = mapping block (leaf (codes "a") ∷ value)

behind_an_anchor : (indented (value_of anchored) ≡ codes "a: &x\n  - b\n") × (undented (value_of anchored) ≡ codes "a: &x\n- b\n")
    × (by_four (value_of anchored) ≡ codes "a: &x\n    - b\n") × (undented_by_four (value_of anchored) ≡ codes "a: &x\n- b\n")
unfolding encode_utf8
behind_an_anchor = (refl, refl, refl, refl)

behind_a_tag : (indented (value_of of_tag) ≡ codes "a: !t\n  - b\n") × (undented (value_of of_tag) ≡ codes "a: !t\n- b\n")
unfolding encode_utf8
behind_a_tag = (refl, refl)

abbrev anchored_key : List Event
anchored_key = mapping block (anchored ++ (leaf (codes "v") ∷ []))

a_key_with_an_anchor : (indented anchored_key ≡ codes "? &x\n  - b\n: v\n") × (undented anchored_key ≡ codes "? &x\n- b\n: v\n")
    × (by_four anchored_key ≡ codes "? &x\n    - b\n: v\n") × (undented_by_four anchored_key ≡ codes "? &x\n- b\n: v\n")
unfolding encode_utf8
a_key_with_an_anchor = (refl, refl, refl, refl)

-- a sequence in a mapping in a sequence in a mapping
abbrev deep : List Event
deep =
    value_of (sequence block (leaf (codes "b")
    ∷ mapping block (leaf (codes "c") ∷ leaf (codes "d") ∷ leaf (codes "e") ∷ sequence block (leaf (codes "f") ∷ []))))

nested : (indented deep ≡ codes "a:\n  - b\n  - c: d\n    e:\n      - f\n") × (undented deep ≡ codes "a:\n- b\n- c: d\n  e:\n  - f\n")
    × (by_four deep ≡ codes "a:\n    - b\n    -   c: d\n        e:\n            - f\n")
    × (undented_by_four deep ≡ codes "a:\n- b\n-   c: d\n    e:\n    - f\n")
unfolding encode_utf8
nested = (refl, refl, refl, refl)

-- the root is at column 0, and a sequence in a sequence on the line of its `-`
outside_of_mappings : (indented (sequence block (leaf (codes "a") ∷ [])) ≡ codes "- a\n")
    × (indented (sequence block (sequence block (leaf (codes "a") ∷ []))) ≡ codes "- - a\n")
    × (indented (value_of (sequence block two_items)) ≡ codes "a:\n  - - b\n    - c\n")
    × (undented (value_of (sequence block two_items)) ≡ codes "a:\n- - b\n  - c\n")
    × (indented (sequence block (value_of (sequence block (leaf (codes "b") ∷ [])))) ≡ codes "- a:\n    - b\n")
unfolding encode_utf8
outside_of_mappings = (refl, refl, refl, refl, refl)

-- in flow, in canonical mode and if a mapping is the value nothing changes
unchanged : (indented (value_of (sequence block [])) ≡ codes "a: []\n")
    × (indented (value_of (sequence flow (leaf (codes "b") ∷ []))) ≡ codes "a: [b]\n")
    × (indented (value_of (mapping block (leaf (codes "b") ∷ leaf (codes "c") ∷ []))) ≡ codes "a:\n  b: c\n")
    × (rendered_under (record canonical_settings { indented_sequences = true }) (alone (value_of two_items))
    ≡ codes "---\n{\n  ? \"a\"\n  : [\n    \"b\",\n    \"c\",\n  ],\n}\n")
unfolding encode_utf8
unchanged = (refl, refl, refl, refl)

-- block scalars in an indented sequence
abbrev lines_in : Text → List Event
lines_in value = value_of (sequence block (untagged value literal ∷ []))

block_scalars : (indented (lines_in (codes "b\n")) ≡ codes "a:\n  - |\n    b\n") × (by_four (lines_in (codes "b\n")) ≡ codes "a:\n    - |\n        b\n")
    × (by_four (lines_in (codes " b\n")) ≡ codes "a:\n    - |4\n         b\n")
unfolding encode_utf8
block_scalars = (refl, refl, refl)

-- the written text is read as the given events
abbrev reads : List Event → Text → Type 0
reads events text = agrees false (alone events) (stream_trees false text) ≡ true

all_read : reads as_value (codes "a:\n  - b\n  - c\nd: e\n") × reads as_value (codes "a:\n    - b\n    - c\nd: e\n")
    × reads as_key (codes "?   - b\n    - c\n: v\n") × reads anchored_key (codes "? &x\n  - b\n: v\n")
    × reads (value_of anchored) (codes "a: &x\n    - b\n") × reads deep (codes "a:\n    - b\n    -   c: d\n        e:\n            - f\n")
unfolding chars is_utf8 encode_utf8
all_read = (refl, refl, refl, refl, refl, refl)
