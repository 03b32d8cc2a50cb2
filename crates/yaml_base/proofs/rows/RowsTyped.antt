-- Typed values, computed: their bytes, their content, their nesting and their count.
use Rattle.yaml_base.specs.values.TypedValues.{TypedValue, null_value, bool_value, int_value, text_value, list_value, map_value, no_values, values_and}
use Rattle.yaml_base.{specs.graphs.DumpedText.document_text, proofs.rows.Cases.Gives}
use Rattle.yaml_base.proofs.Common.{Some, codes, negsuc, pos, false, true, [], ◌∷◌, refl, ◌≡◌, canonical_content}
use Rattle.yaml_base.specs.values.TypedValues.{no_value_pairs, value_pairs_and, typed_content, value_count, nesting, typed_output}
use Rattle.std.specs.{Char.encode_utf8, Fmt.digits, Str.chars, Str.is_utf8}

bytes_of_values : Gives typed_output (
    (null_value, codes "---\n!!null \"null\"\n")  -- a null
    ∷ (bool_value true, codes "---\n!!bool \"true\"\n")  -- a boolean
    ∷ (int_value (negsuc 9223372036854775807), codes "---\n!!int \"-9223372036854775808\"\n")  -- the least integer
    ∷ (text_value [], codes "---\n!!str \"\"\n")  -- an empty text
    ∷ [])
unfolding encode_utf8 digits
bytes_of_values = refl

-- the list of 5 and `a`
abbrev five_and_a : TypedValue
five_and_a = list_value (values_and (values_and no_values (int_value (pos 5))) (text_value (codes "a")))

a_list : typed_output five_and_a ≡ codes "---\n!!seq [\n  !!int \"5\",\n  !!str \"a\",\n]\n"
unfolding encode_utf8 digits
a_list = refl

-- the map of `k` to false
abbrev k_to_false : TypedValue
k_to_false = map_value (value_pairs_and no_value_pairs (text_value (codes "k")) (bool_value false))

bytes_of_maps : Gives typed_output (
    (k_to_false, codes "---\n!!map {\n  ? !!str \"k\"\n  : !!bool \"false\",\n}\n")  -- a map
    ∷ (list_value no_values, codes "---\n!!seq []\n")  -- no items
    ∷ (map_value no_value_pairs, codes "---\n!!map {}\n")  -- no pairs at all
    ∷ [])
unfolding encode_utf8
bytes_of_maps = refl

texts_of_values : Gives document_text (
    (null_value, codes "---\n!!null \"null\"\n")  -- a null
    ∷ (int_value (negsuc 6), codes "---\n!!int \"-7\"\n")  -- a negative integer
    ∷ (text_value (codes "a\tb"), codes "---\n!!str \"a\\tb\"\n")  -- a text with a short escape
    ∷ (text_value (0x7F ∷ 0xFEFF ∷ []), codes "---\n!!str \"\\x7F\\uFEFF\"\n")  -- characters by their numbers
    ∷ (five_and_a, codes "---\n!!seq [\n  !!int \"5\",\n  !!str \"a\",\n]\n")  -- a list
    ∷ (k_to_false, codes "---\n!!map {\n  ? !!str \"k\"\n  : !!bool \"false\",\n}\n")  -- a map
    ∷ (list_value (values_and no_values (list_value no_values)), codes "---\n!!seq [\n  !!seq [],\n]\n")  -- a list without items in a list
    ∷ [])
unfolding digits
texts_of_values = refl

bytes_read : Gives (canonical_content false) (
    (codes "---\n!!seq [\n  !!int \"5\",\n  !!str \"a\",\n]\n", Some (typed_content five_and_a))  -- a list
    ∷ (codes "---\n!!map {\n  ? !!str \"k\"\n  : !!bool \"false\",\n}\n", Some (typed_content k_to_false))  -- a map
    ∷ [])
unfolding chars is_utf8 encode_utf8 digits
bytes_read = refl

-- the list of a map of null to null and an empty list
abbrev nested : TypedValue
nested = list_value (values_and (values_and no_values (map_value (value_pairs_and no_value_pairs null_value null_value))) (list_value no_values))

its_nesting : nesting nested ≡ 2
its_nesting = refl

its_count : value_count nested ≡ 5
its_count = refl
