-- Lists and maps that are being read, with what they hold so far.
use Rattle.std.specs.Prelude.{List, [], ◌∷◌}
use Rattle.yaml_base.specs.values.TypedValues.{TypedValue, TypedValues, values_and, TypedPairs, value_pairs_and}
use Rattle.yaml_value.specs.SeenValues.{seen_value, seen_values, seen_pairs}
use Rattle.yaml_value.specs.declared.levels.Level.{Level}
use Rattle.yaml_value.specs.declared.levels.Level.TheVariants as code

-- a list; a map that awaits a key; one that awaits the value of this key
pub data OpenLevel : Type 0 where
  items_open : TypedValues → OpenLevel
  pairs_open : TypedPairs → OpenLevel
  value_due : TypedPairs → (key : TypedValue) → OpenLevel

-- one of them with a value more: an item, a key, or the value of the key that waits
abbrev pub with_value : OpenLevel → TypedValue → OpenLevel
with_value (items_open items) value = items_open (values_and items value)
with_value (pairs_open pairs) value = value_due pairs value
with_value (value_due pairs key) value = pairs_open (value_pairs_and pairs key value)

-- ---- those of a program

abbrev pub seen_level : {A : Type 0} → Level A → OpenLevel
seen_level (code.Items items) = items_open (seen_values items.items)
seen_level (code.Pairs pairs) = pairs_open (seen_pairs pairs.items)
seen_level (code.PairsAndKey pairs key) = value_due (seen_pairs pairs.items) (seen_value key)

-- the innermost first, before outer ones
abbrev pub onto : {A : Type 0} → List OpenLevel → List (Level A) → List OpenLevel
onto outer [] = outer
onto outer (level ∷ levels) = onto (seen_level level ∷ outer) levels

abbrev pub seen_levels : {A : Type 0} → List (Level A) → List OpenLevel
seen_levels levels = onto [] levels
