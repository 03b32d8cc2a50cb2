-- Values as contracts see them: no capacity and no allocator, texts as their characters.
use Rattle.std.specs.Prelude.{List, [], ◌∷◌, map}
use Rattle.yaml_base.specs.Seen.{seen_text}
use Rattle.yaml_base.specs.values.TypedValues.{TypedValue, null_value, bool_value, int_value, text_value, list_value, map_value, TypedValues, no_values}
use Rattle.yaml_base.specs.values.TypedValues.{values_and, TypedPairs, no_value_pairs, value_pairs_and}
use Rattle.yaml_value.specs.declared.value.Value.{Value, fold-Value}
use Rattle.yaml_value.specs.declared.value.Value.TheOpen.{Value-F}

-- values in order
abbrev pub values_of : TypedValues → List TypedValue → TypedValues
values_of before [] = before
values_of before (value ∷ values) = values_of (values_and before value) values

-- pairs in order
abbrev pub pairs_of : TypedPairs → List (TypedValue × TypedValue) → TypedPairs
pairs_of before [] = before
pairs_of before (pair ∷ pairs) = pairs_of (value_pairs_and before pair.0 pair.1) pairs

-- one level of a value, whose inner values are seen
abbrev pub seen_value_level : {A : Type 0} → Value-F A TypedValue → TypedValue
seen_value_level Value-F.Null = null_value
seen_value_level (Value-F.Bool b) = bool_value b
seen_value_level (Value-F.Int n) = int_value n
seen_value_level (Value-F.Text text) = text_value (seen_text text)
seen_value_level (Value-F.List items) = list_value (values_of no_values items.items)
seen_value_level (Value-F.Map pairs) = map_value (pairs_of no_value_pairs pairs.items)

-- a value
abbrev pub seen_value : {A : Type 0} → Value A → TypedValue
seen_value {A} = fold-Value A TypedValue seen_value_level

-- values in order
abbrev pub seen_values : {A : Type 0} → List (Value A) → TypedValues
seen_values values = values_of no_values (map seen_value values)

-- pairs in order
abbrev pub seen_pairs : {A : Type 0} → List (Value A × Value A) → TypedPairs
seen_pairs pairs = pairs_of no_value_pairs (map (λ pair. (seen_value pair.0, seen_value pair.1)) pairs)
