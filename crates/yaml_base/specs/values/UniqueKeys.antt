-- Values in which no map has a key twice.
use Rattle.std.specs.Prelude.{◌≢◌}
use Rattle.yaml_base.specs.values.TypedValues.{TypedValue, list_value, map_value, TypedValues, no_values, values_and}
use Rattle.yaml_base.specs.values.TypedValues.{TypedPairs, no_value_pairs, value_pairs_and}

-- True if no pair has this key.
abbrev pub IsNewKey : TypedPairs → TypedValue → Type 0
IsNewKey no_value_pairs new = Unit {0}
IsNewKey (value_pairs_and pairs key value) new = IsNewKey pairs new × (key ≢ new)

-- True of a value if no two keys of a map are equal, in the value itself and in all that it holds, keys included.
abbrev mutual
  pub HasUniqueKeys : TypedValue → Type 0
  HasUniqueKeys (list_value items) = AllHaveUniqueKeys items
  HasUniqueKeys (map_value pairs) = PairsHaveUniqueKeys pairs
  HasUniqueKeys _ = Unit {0}

  pub AllHaveUniqueKeys : TypedValues → Type 0
  AllHaveUniqueKeys no_values = Unit {0}
  AllHaveUniqueKeys (values_and items item) = AllHaveUniqueKeys items × HasUniqueKeys item

  pub PairsHaveUniqueKeys : TypedPairs → Type 0
  PairsHaveUniqueKeys no_value_pairs = Unit {0}
  PairsHaveUniqueKeys (value_pairs_and pairs key value) =
      PairsHaveUniqueKeys pairs × (IsNewKey pairs key × (HasUniqueKeys key × HasUniqueKeys value))
