-- Unique keys, from what is open before a node to what is open after it, and in a value whose text is being read.
use Rattle.yaml_read.proofs.Common.{ℕ, List, ◌∷◌, ◌≡◌, ◌∙◌, subst, sym, arith, TypedValue, list_value, map_value, most_nested, TypedPairs, HasUniqueKeys}
use Rattle.yaml_read.proofs.Common.{IsNewKey, OpenLevel, items_open, pairs_open, value_due, with_value, CanBeReadAt, Keys, KeysAllow, OpenHasUniqueKeys}
use Rattle.yaml_read.proofs.Common.{OpenKeysAllow, BeginsLevel, Ended, Moved, begins_list, begins_map, closed_value, value_given, none_ended, one_ended}
use Rattle.yaml_read.proofs.Common.{level_opened}
use Rattle.yaml_value.specs.declared.keys.Keys.TheVariants as keys

-- a value that can be read in any depth is a scalar
pub scalar_unique : (value : TypedValue) → ((depth : ℕ) → CanBeReadAt depth value) → HasUniqueKeys value
scalar_unique (list_value items) readable = absurd (omega (arith, (readable most_nested).0))
scalar_unique (map_value pairs) readable = absurd (omega (arith, (readable most_nested).0))
scalar_unique _ readable = tt

-- ---- levels that end

outer_unique : (level : OpenLevel) (levels : List OpenLevel) → OpenHasUniqueKeys (level ∷ levels) → OpenHasUniqueKeys levels
outer_unique (items_open items) levels unique = unique.0
outer_unique _ levels unique = unique.0

closed_unique : (level : OpenLevel) (levels : List OpenLevel) (value : TypedValue) → OpenHasUniqueKeys (level ∷ levels) → HasUniqueKeys value
    → HasUniqueKeys (closed_value (with_value level value))
closed_unique (items_open items) levels value unique also = (unique.1, also)
closed_unique (pairs_open pairs) levels value unique also = unique.1
closed_unique (value_due pairs key) levels value unique also = (unique.1.0, (unique.1.1.0, (unique.1.1.1, also)))

pub ended_unique : (before : List OpenLevel) (first : TypedValue) (levels : List OpenLevel) (value : TypedValue) → Ended before first levels value
    → OpenHasUniqueKeys before → HasUniqueKeys first → OpenHasUniqueKeys levels × HasUniqueKeys value
ended_unique before first _ _ none_ended unique also = (unique, also)
ended_unique before first levels last (one_ended level _ value _ ended is) unique also =
    let both = ended_unique before first (level ∷ levels) value ended unique also in
    (outer_unique level levels both.0, subst HasUniqueKeys (sym is) (closed_unique level levels value both.0 both.1))

-- the same in either mode
pub unique_allows : (mode : Keys) (value : TypedValue) → HasUniqueKeys value → KeysAllow mode value
unique_allows keys.Unique value unique = unique
unique_allows keys.MayRepeat value unique = tt

pub ended_allows : (mode : Keys) (before : List OpenLevel) (first : TypedValue) (levels : List OpenLevel) (value : TypedValue)
    → Ended before first levels value → OpenKeysAllow mode before → KeysAllow mode first → OpenKeysAllow mode levels × KeysAllow mode value
ended_allows keys.Unique before first levels value ended unique also = ended_unique before first levels value ended unique also
ended_allows keys.MayRepeat before first levels value ended unique also = (tt, tt)

-- ---- levels that go on

-- the key that awaits its value in the innermost map is none of the others
abbrev pub HasNewKey : List OpenLevel → Type 0
HasNewKey (value_due pairs key ∷ levels) = IsNewKey pairs key
HasNewKey _ = Unit {0}

taken_unique : (level : OpenLevel) (levels : List OpenLevel) (value : TypedValue) → OpenHasUniqueKeys (level ∷ levels) → HasUniqueKeys value
    → HasNewKey (with_value level value ∷ levels) → OpenHasUniqueKeys (with_value level value ∷ levels)
taken_unique (items_open items) levels value unique also new = (unique.0, (unique.1, also))
taken_unique (pairs_open pairs) levels value unique also new = (unique.0, (unique.1, (new, also)))
taken_unique (value_due pairs key) levels value unique also new = (unique.0, (unique.1.0, (unique.1.1.0, (unique.1.1.1, also))))

begun_unique : (level : OpenLevel) (levels : List OpenLevel) → BeginsLevel level → OpenHasUniqueKeys levels → OpenHasUniqueKeys (level ∷ levels)
begun_unique _ levels begins_list unique = (unique, tt)
begun_unique _ levels begins_map unique = (unique, tt)

pub moved_unique : (before after : List OpenLevel) → Moved before after → OpenHasUniqueKeys before → HasNewKey after → OpenHasUniqueKeys after
moved_unique before after (level_opened level begins is) unique new = subst OpenHasUniqueKeys (sym is) (begun_unique level before begins unique)
moved_unique before after (value_given value also took) unique new =
    let both = ended_unique before value (took.level ∷ took.outer) took.value took.ended unique also in
    subst OpenHasUniqueKeys (sym took.taken) (taken_unique took.level took.outer took.value both.0 both.1 (subst HasNewKey took.taken new))

-- a map that awaits the value of a key has been there before it
only_keys : (level : OpenLevel) (levels outer : List OpenLevel) (value key : TypedValue) (pairs : TypedPairs)
    → with_value level value ∷ levels ≡ value_due pairs key ∷ outer → OpenHasUniqueKeys (level ∷ levels) → OpenHasUniqueKeys (pairs_open pairs ∷ outer)
only_keys (pairs_open other) levels outer value key pairs is unique =
    let same : pairs_open other ∷ levels ≡ pairs_open pairs ∷ outer = cc in
    subst OpenHasUniqueKeys same unique
only_keys _ levels outer value key pairs is unique = cc

none_due : (level : OpenLevel) (levels outer : List OpenLevel) (key : TypedValue) (pairs : TypedPairs) → BeginsLevel level
    → level ∷ levels ≡ value_due pairs key ∷ outer → ⊥
none_due level levels outer key pairs h1 h2 = grind arith

pub key_unique : (before after outer : List OpenLevel) (pairs : TypedPairs) (key : TypedValue) → Moved before after → after ≡ value_due pairs key ∷ outer
    → OpenHasUniqueKeys before → OpenHasUniqueKeys (pairs_open pairs ∷ outer)
key_unique before after outer pairs key (level_opened level begins is) due unique = absurd (none_due _ before outer key pairs begins (sym is ∙ due))
key_unique before after outer pairs key (value_given value also took) due unique =
    only_keys took.level took.outer outer took.value key pairs (sym took.taken ∙ due) (ended_unique _ _ _ _ took.ended unique also).0
