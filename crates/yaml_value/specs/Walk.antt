-- A walk over a value, by what it has left to visit: of each list and map that was entered, the outermost first.
use Rattle.std.specs.Prelude.{Option, None, Some, List, [], ◌∷◌, ◌++◌, map, flat_map, drop}
use Rattle.std.specs.Prelude.{ℕ, ◌+◌}
use Rattle.yaml_base.specs.values.TypedValues.{TypedValue, list_value, map_value, TypedValues, no_values, values_and, TypedPairs, no_value_pairs}
use Rattle.yaml_base.specs.values.TypedValues.{value_pairs_and, value_count}
use Rattle.yaml_value.specs.SeenValues.{seen_value}
use Rattle.yaml_value.specs.declared.value.Value.{Value}
use Rattle.yaml_value.specs.declared.walk.Rest.{Rest}

-- the items of a list, in order
abbrev pub items_in : TypedValues → List TypedValue
items_in no_values = []
items_in (values_and items item) = items_in items ++ item ∷ []

-- the values in pairs, in order, keys before their values
abbrev pub values_in : TypedPairs → List TypedValue
values_in no_value_pairs = []
values_in (value_pairs_and pairs key value) = values_in pairs ++ key ∷ value ∷ []

-- The kind of the next value: an item of a list, a key, or the value of a key.
pub data Next : Type 0 where
  item_next : Next
  key_next : Next
  value_next : Next

-- the kind of the value after that
abbrev pub next_after : Next → Next
next_after item_next = item_next
next_after key_next = value_next
next_after value_next = key_next

-- The rest of a list or a map: values, and the kind of the first.
pub record Left : Type 0 where
  pub values : List TypedValue
  pub next : Next

-- the values in pairs of a program
abbrev pub seen_flat : {A : Type 0} → List (Value A × Value A) → List TypedValue
seen_flat pairs = flat_map (λ pair. seen_value pair.0 ∷ seen_value pair.1 ∷ []) pairs

-- The rest of a list or a map of a program.
abbrev pub seen_rest : {A : Type 0} → Rest A → Left
seen_rest (Rest.Items items) = record { values = map seen_value items.now; next = item_next }
seen_rest (Rest.Pairs pairs) = record { values = seen_flat pairs.now; next = key_next }
seen_rest (Rest.PairsFromValue pairs) = record { values = drop 1 (seen_flat pairs.now); next = value_next }

-- The rest of a value that was just entered; none of a scalar.
abbrev pub entered : TypedValue → List Left
entered (list_value items) = record { values = items_in items; next = item_next } ∷ []
entered (map_value pairs) = record { values = values_in pairs; next = key_next } ∷ []
entered _ = []

-- the first value, and the rest after it
abbrev pub split_values : Next → List TypedValue → Option (TypedValue × Left)
split_values next [] = None
split_values next (value ∷ values) = Some (value, record { values = values; next = next_after next })

abbrev pub split : Left → Option (TypedValue × Left)
split left = split_values left.next left.values

-- the value that a step enters, and what is left then, if this is left of the innermost list or map
abbrev pub stepped_by : List Left → Option (TypedValue × Left) → Option TypedValue × List Left
stepped_by outer None = (None, outer)
stepped_by outer (Some parts) = (Some parts.0, outer ++ parts.1 ∷ entered parts.0)

abbrev pub stepped : List Left → Left → Option TypedValue × List Left
stepped outer left = stepped_by outer (split left)

-- the number of values in some values
abbrev pub count_all : List TypedValue → ℕ
count_all [] = 0
count_all (value ∷ values) = value_count value + count_all values

-- the number of values that are left
abbrev pub count_left : List Left → ℕ
count_left [] = 0
count_left (left ∷ inner) = count_all left.values + count_left inner
