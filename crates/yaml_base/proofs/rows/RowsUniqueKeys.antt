-- Maps whose keys are unique, and maps whose keys aren't.
use Rattle.yaml_base.specs.values.TypedValues.{TypedValue, null_value, int_value, text_value, list_value, map_value, no_values, values_and}
use Rattle.yaml_base.specs.values.TypedValues.{TypedPairs, no_value_pairs, value_pairs_and}
use Rattle.yaml_base.specs.values.UniqueKeys.{HasUniqueKeys}
use Rattle.yaml_base.proofs.Common.{Bool, true, false, codes, pos, refl, ap, true≢false}

-- one pair more
abbrev with_null : TypedPairs → TypedValue → TypedPairs
with_null pairs key = value_pairs_and pairs key null_value

-- a map of two keys to null
abbrev of_two : (first second : TypedValue) → TypedValue
of_two first second = map_value (with_null (with_null no_value_pairs first) second)

abbrev letter : TypedValue
letter = text_value (codes "k")

abbrev is_text : TypedValue → Bool
is_text (text_value text) = true
is_text _ = false

-- a text and a list of it are two keys
a_text_and_its_list : HasUniqueKeys (of_two letter (list_value (values_and no_values letter)))
a_text_and_its_list =
    ((tt, (tt, (tt, tt))), ((tt, λ same. true≢false (ap is_text same)), ((tt, tt), tt)))

-- the text `1` and the integer 1 are two keys
a_text_and_an_integer : HasUniqueKeys (of_two (text_value (codes "1")) (int_value (pos 1)))
a_text_and_an_integer =
    ((tt, (tt, (tt, tt))), ((tt, λ same. true≢false (ap is_text same)), (tt, tt)))

-- one key twice
twice : HasUniqueKeys (of_two letter letter) → ⊥
twice unique = unique.1.0.1 refl

-- two maps in a list may have the same key
in_two_maps : HasUniqueKeys (list_value (values_and (values_and no_values (of_two letter null_value)) (of_two letter null_value)))
in_two_maps = ((tt, each), each)
  where
    each : HasUniqueKeys (of_two letter null_value)
    each = ((tt, (tt, (tt, tt))), ((tt, λ same. true≢false (ap is_text same)), (tt, tt)))

-- one key twice, in a map that is a key
in_a_key : HasUniqueKeys (map_value (with_null no_value_pairs (of_two letter letter))) → ⊥
in_a_key unique = unique.1.1.0.1.0.1 refl
