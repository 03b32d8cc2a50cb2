-- Which keys a value may have, and what is open of one.
use Rattle.std.specs.Prelude.{List, [], ◌∷◌}
use Rattle.yaml_base.specs.values.TypedValues.{TypedValue}
use Rattle.yaml_base.specs.values.UniqueKeys.{AllHaveUniqueKeys, HasUniqueKeys, IsNewKey, PairsHaveUniqueKeys}
use Rattle.yaml_value.specs.OpenLevels.{OpenLevel, items_open, pairs_open, value_due}
use Rattle.yaml_value.specs.declared.keys.Keys.{Keys}
use Rattle.yaml_value.specs.declared.keys.Keys.TheVariants as keys

-- True of each value if keys may repeat, else if no map of the value has a key twice.
abbrev pub KeysAllow : Keys → TypedValue → Type 0
KeysAllow keys.Unique value = HasUniqueKeys value
KeysAllow keys.MayRepeat value = Unit {0}

-- True of lists and maps that are open if no map among them, or in what they hold, has a key twice.
abbrev pub OpenHasUniqueKeys : List OpenLevel → Type 0
OpenHasUniqueKeys [] = Unit {0}
OpenHasUniqueKeys (items_open items ∷ levels) = OpenHasUniqueKeys levels × AllHaveUniqueKeys items
OpenHasUniqueKeys (pairs_open pairs ∷ levels) = OpenHasUniqueKeys levels × PairsHaveUniqueKeys pairs
OpenHasUniqueKeys (value_due pairs key ∷ levels) =
    OpenHasUniqueKeys levels × (PairsHaveUniqueKeys pairs × (IsNewKey pairs key × HasUniqueKeys key))

-- True of all lists and maps that are open if keys may repeat, else if none of these maps has a key twice.
abbrev pub OpenKeysAllow : Keys → List OpenLevel → Type 0
OpenKeysAllow keys.Unique levels = OpenHasUniqueKeys levels
OpenKeysAllow keys.MayRepeat levels = Unit {0}
