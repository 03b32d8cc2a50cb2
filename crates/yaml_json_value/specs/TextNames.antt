-- Values that JSON has: each key of their maps is a text.
use Rattle.std.specs.Prelude.{◌<◌}
use Rattle.yaml_base.specs.values.TypedValues.{TypedValue, text_value, list_value, map_value, TypedValues, no_values, values_and}
use Rattle.yaml_base.specs.values.TypedValues.{TypedPairs, no_value_pairs, value_pairs_and, most_nested, nesting}
use Rattle.yaml_json_value.specs.declared.error.WriteError.{WriteError}
use Rattle.yaml_json_value.specs.declared.error.WriteError.TheVariants as errors

-- the value is a text
abbrev pub IsTextValue : TypedValue → Type 0
IsTextValue (text_value text) = Unit {0}
IsTextValue _ = ⊥

-- each key in a value is a text
abbrev mutual
  pub HasTextNames : TypedValue → Type 0
  HasTextNames (list_value items) = HaveTextNames items
  HasTextNames (map_value pairs) = AreMembers pairs
  HasTextNames _ = Unit {0}

  pub HaveTextNames : TypedValues → Type 0
  HaveTextNames no_values = Unit {0}
  HaveTextNames (values_and items item) = HaveTextNames items × HasTextNames item

  pub AreMembers : TypedPairs → Type 0
  AreMembers no_value_pairs = Unit {0}
  AreMembers (value_pairs_and pairs key value) = AreMembers pairs × (IsTextValue key × HasTextNames value)

-- the fact about the value that an error tells
abbrev pub ExplainsWriteError : TypedValue → WriteError → Type 0
ExplainsWriteError value errors.NameNotText = HasTextNames value → ⊥
ExplainsWriteError value errors.TooDeep = most_nested < nesting value
ExplainsWriteError value errors.Memory = Unit {0}
