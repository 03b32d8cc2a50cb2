-- Worked rows of portable mode, computed, each beside its text without it.
use Rattle.yaml_base.proofs.Common.{suc, zero, ℕ, None, Some, codes, replicate, false, true, List, [], ◌++◌, ◌∷◌, refl, ◌≡◌, Text, any_layout, block, flow}
use Rattle.yaml_base.proofs.Common.{ScalarStyle, Event, document_start, document_end, output_of, suffix_escaped, prefix_escaped, utf16_big, both_break}
use Rattle.yaml_base.proofs.rows.RowEvents.{plain_settings, canonical_settings, untagged, leaf, tagged, sequence, mapping, implicit_start, document_of}
use Rattle.yaml_base.proofs.Common.{Settings, agrees, literal, folded, single_quoted, stream_trees}
use Rattle.yaml_base.proofs.rows.RowEvents.{stream_of, alone, rendered_under, rendered}
use Rattle.std.specs.{Char.encode_utf8, Str.chars, Str.is_utf8}

abbrev portable_settings : Settings
portable_settings = record plain_settings { portable = true }

abbrev portably : List Event → Text
portably events = rendered_under portable_settings events

-- a scalar without flags that has this tag
abbrev of_tag : Text → Event
of_tag tag = tagged None (Some tag) (codes "x")

-- a root of nothing: a document's start is written
nothing_at_the_root : (portably (alone (leaf [] ∷ [])) ≡ codes "---\n") × (rendered (alone (leaf [] ∷ [])) ≡ codes "\n")
nothing_at_the_root = (refl, refl)

explicit_end : portably (stream_of (implicit_start ∷ leaf [] ∷ document_end false ∷ [])) ≡ codes "---\n...\n"
explicit_end = refl

two_of_nothing : portably (stream_of (document_of (leaf [] ∷ []) ++ document_of (leaf [] ∷ []))) ≡ codes "---\n---\n"
two_of_nothing = refl

in_sixteen_bits : output_of (record portable_settings { encoding = Some utf16_big; line_break = Some both_break }) (alone (leaf [] ∷ []))
    ≡ 0xFE ∷ 0xFF ∷ 0 ∷ 0x2D ∷ 0 ∷ 0x2D ∷ 0 ∷ 0x2D ∷ 0 ∷ 0x0D ∷ 0 ∷ 0x0A ∷ []
in_sixteen_bits = refl

roots : (portably (alone (leaf (codes "a") ∷ [])) ≡ codes "--- a\n")
    × (portably (alone (sequence any_layout [])) ≡ codes "--- []\n")
    × (portably (alone (sequence any_layout (leaf (codes "a") ∷ []))) ≡ codes "---\n- a\n")
    × (portably (alone (mapping any_layout (leaf (codes "a") ∷ leaf [] ∷ []))) ≡ codes "---\na:\n")
unfolding encode_utf8
roots = (refl, refl, refl, refl)

canonical_as_before : rendered_under (record canonical_settings { portable = true }) (alone (leaf (codes "a") ∷ [])) ≡ codes "---\n\"a\"\n"
canonical_as_before = refl

-- flow indicators after a handle, and in a verbatim tag
after_a_handle : (portably (alone (of_tag (codes "!a,b[c]") ∷ [])) ≡ codes "--- !a%2Cb%5Bc%5D x\n")
    × (rendered (alone (of_tag (codes "!a,b[c]") ∷ [])) ≡ codes "!a,b[c] x\n")
unfolding encode_utf8
after_a_handle = (refl, refl)

verbatim_tags : (portably (alone (of_tag (codes "tag:yaml.org,2002:") ∷ [])) ≡ codes "--- !<tag:yaml.org,2002:> x\n")
    × (portably (alone (sequence flow (of_tag (codes "tag:yaml.org,2002:,") ∷ of_tag (codes "a,b") ∷ []))) ≡ codes "--- [!!%2C x, !<a,b> x]\n")
unfolding encode_utf8
verbatim_tags = (refl, refl)

-- so many percent forms of a comma
abbrev percent_forms : ℕ → Text
percent_forms zero = []
percent_forms (suc n) = codes "%2C" ++ percent_forms n

-- the length of a simple key is that before escapes
long_tag_at_a_key :
    portably (alone (mapping block (tagged None (Some (codes "!" ++ replicate 127 0x2C)) [] ∷ leaf (codes "v") ∷ [])))
    ≡ codes "---\n!" ++ (percent_forms 127 ++ codes " '': v\n")
unfolding encode_utf8
long_tag_at_a_key = refl

-- a document that gives a prefix for `!e!`, and a scalar with a tag
abbrev with_prefix : Text → Text → List Event
with_prefix prefix tag =
    stream_of
    (document_start (record { version = None; directives = record { handle = codes "!e!"; prefix = prefix } ∷ []; implicit = true })
    ∷ of_tag tag ∷ document_end true ∷ [])

-- a `!` that begins a prefix, and others
prefixes : (portably (with_prefix (codes "!x") (codes "!xy")) ≡ codes "%TAG !e! !x\n--- !e!y x\n")
    × (rendered (with_prefix (codes "!x") (codes "!xy")) ≡ codes "%TAG !e! %21x\n--- !e!y x\n")
    × (portably (with_prefix (codes "!!a!") (codes "!!a!b")) ≡ codes "%TAG !e! !%21a%21\n--- !e!b x\n")
    × (portably (with_prefix (codes "a!,[") (codes "a!,[,")) ≡ codes "%TAG !e! a%21,[\n--- !e!%2C x\n")
unfolding encode_utf8
prefixes = (refl, refl, refl, refl)

-- the written text is read as the given events
abbrev reads : List Event → Text → Type 0
reads events text = agrees false events (stream_trees false text) ≡ true

all_read : reads (alone (leaf [] ∷ [])) (codes "---\n")
    × reads (alone (of_tag (codes "!a,b[c]") ∷ [])) (codes "--- !a%2Cb%5Bc%5D x\n")
    × reads (with_prefix (codes "!!a!") (codes "!!a!b")) (codes "%TAG !e! !%21a%21\n--- !e!b x\n")
    × reads (with_prefix (codes "a!,[") (codes "a!,[,")) (codes "%TAG !e! a%21,[\n--- !e!%2C x\n")
unfolding chars is_utf8 encode_utf8
all_read = (refl, refl, refl, refl)

-- the texts alone
escapes : (suffix_escaped true (codes "a,b!%") ≡ codes "a%2Cb%21%25") × (suffix_escaped false (codes "a,b!%") ≡ codes "a,b%21%25")
    × (prefix_escaped true (codes "!a!,") ≡ codes "!a%21,") × (prefix_escaped false (codes "!a!,") ≡ codes "%21a%21,")
    × (prefix_escaped true (codes "%!") ≡ codes "%25%21")
unfolding encode_utf8
escapes = (refl, refl, refl, refl, refl)

-- U+2028 and U+2029 are escaped, though the line breaks are those of YAML 1.1
abbrev separated : List Event
separated = alone (leaf (97 ∷ 0x2028 ∷ 98 ∷ 0x2029 ∷ []) ∷ [])

separators : (rendered_under (record portable_settings { unicode = true }) separated ≡ codes "--- \"a\\Lb\\P\"\n")
    × (rendered_under (record portable_settings { unicode = true; breaks12 = true }) separated ≡ codes "--- \"a\\Lb\\P\"\n")
    × (rendered_under (record plain_settings { unicode = true }) separated
    ≡ 39 ∷ 97 ∷ 0x2028 ∷ 32 ∷ 32 ∷ 98 ∷ 0x2029 ∷ 32 ∷ 32 ∷ 39 ∷ 10 ∷ [])
separators = (refl, refl, refl)

separators_read : reads separated (codes "--- \"a\\Lb\\P\"\n") × (agrees false separated (stream_trees true (codes "--- \"a\\Lb\\P\"\n")) ≡ true)
unfolding chars is_utf8 encode_utf8
separators_read = (refl, refl)

-- a key that holds one is no simple one
separated_key : rendered_under (record portable_settings { unicode = true })
    (alone (mapping any_layout (leaf (97 ∷ 0x2028 ∷ []) ∷ leaf (codes "v") ∷ [])))
    ≡ codes "---\n? \"a\\L\"\n: v\n"
unfolding encode_utf8
separated_key = refl

-- a root in a block style, whose header would have a digit, is in double quotes
abbrev root_of : ScalarStyle → Text → List Event
root_of style value = alone (untagged value style ∷ [])

no_digit_at_the_root : (portably (root_of literal (codes "\na")) ≡ codes "--- \"\\na\"\n")
    × (portably (root_of folded (codes " a")) ≡ codes "--- \" a\"\n")
    × (portably (root_of literal (codes "\n")) ≡ codes "--- \"\\n\"\n")
    × (rendered (root_of literal (codes "\na")) ≡ codes "|2-\n\n  a\n")
    × (rendered (root_of folded (codes " a")) ≡ codes ">2-\n   a\n")
    × (rendered (root_of literal (codes "\n")) ≡ codes "|2+\n\n...\n")
no_digit_at_the_root = (refl, refl, refl, refl, refl, refl)

-- another style, a value without a digit, and an entry are as they were
abbrev entries : List Event
entries = untagged (codes "\na") literal ∷ untagged (codes " a") folded ∷ []

digits_elsewhere : (portably (root_of single_quoted (codes "\na")) ≡ codes "--- '\n\n  a'\n")
    × (portably (root_of literal (codes "a\n b")) ≡ codes "--- |-\n  a\n   b\n")
    × (portably (root_of folded (codes "a b")) ≡ codes "--- >-\n  a b\n")
    × (portably (alone (sequence block entries)) ≡ codes "---\n- |2-\n\n  a\n- >2-\n   a\n")
    × (portably (alone (mapping block entries)) ≡ codes "---\n? |2-\n\n  a\n: >2-\n   a\n")
unfolding encode_utf8
digits_elsewhere = (refl, refl, refl, refl, refl)

roots_read : reads (root_of literal (codes "\na")) (codes "--- \"\\na\"\n") × reads (root_of folded (codes " a")) (codes "--- \" a\"\n")
unfolding chars is_utf8 encode_utf8
roots_read = (refl, refl)
