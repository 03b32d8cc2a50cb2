-- Values, and lists and maps that are being read, as they are seen.
use Rattle.yaml_value.proofs.Common.{Bool, List, [], ◌∷◌, ◌++◌, refl, ◌≡◌, ap, ◌∙◌, length, map, map-append, rules}
use Rattle.yaml_value.proofs.Common.{TypedValue, list_value, map_value, TypedValues, no_values, values_and, TypedPairs, no_value_pairs, value_pairs_and}
use Rattle.yaml_value.proofs.Common.{null_value, bool_value, int_value, text_value, seen_value, seen_values, seen_pairs, values_of, pairs_of}
use Rattle.yaml_base.proofs.Common.{ℤ}
use Rattle.yaml_base.specs.Seen.{seen_text}
use Rattle.std.proofs.Common.{Vec, String}
use Rattle.yaml_value.specs.OpenLevels.{OpenLevel, onto, seen_level, seen_levels}
use Rattle.yaml_value.specs.declared.levels.Level.{Level}
use Rattle.yaml_value.specs.declared.value.Value.{Value}
use Rattle.yaml_value.specs.declared.value.Value as declared

-- ---- one more item, and one more pair

values_of-more : (before : TypedValues) (values : List TypedValue) (value : TypedValue)
    → values_of before (values ++ value ∷ []) ≡ values_and (values_of before values) value
values_of-more before [] value = refl
values_of-more before (first ∷ values) value = values_of-more (values_and before first) values value

pub item_more : {A : Type 0} (items : List (Value A)) (item : Value A) → seen_values (items ++ item ∷ []) ≡ values_and (seen_values items) (seen_value item)
item_more items item =
    ap (values_of no_values) (map-append seen_value items (item ∷ [])) ∙ values_of-more no_values (map seen_value items) (seen_value item)

pairs_of-more : (before : TypedPairs) (pairs : List (TypedValue × TypedValue)) (pair : TypedValue × TypedValue)
    → pairs_of before (pairs ++ pair ∷ []) ≡ value_pairs_and (pairs_of before pairs) pair.0 pair.1
pairs_of-more before [] pair = refl
pairs_of-more before (first ∷ pairs) pair = pairs_of-more (value_pairs_and before first.0 first.1) pairs pair

pub pair_more : {A : Type 0} (pairs : List (Value A × Value A)) (pair : Value A × Value A)
    → seen_pairs (pairs ++ pair ∷ []) ≡ value_pairs_and (seen_pairs pairs) (seen_value pair.0) (seen_value pair.1)
pair_more {A} pairs pair =
    let seen : Value A × Value A → TypedValue × TypedValue = λ pair. (seen_value pair.0, seen_value pair.1) in
    ap (pairs_of no_value_pairs) (map-append seen pairs (pair ∷ [])) ∙ pairs_of-more no_value_pairs (map seen pairs) (seen pair)

-- ---- values by their kinds

pub seen_list : {A : Type 0} (items : Vec (Value A) A) → seen_value (declared.List items) ≡ list_value (seen_values items.items)
seen_list items = search (rules, declared.the_lemmas)

pub seen_map : {A : Type 0} (pairs : Vec (Value A × Value A) A) → seen_value (declared.Map pairs) ≡ map_value (seen_pairs pairs.items)
seen_map pairs = search (rules, declared.the_lemmas)

pub seen_string : {A : Type 0} (text : String A) → seen_value (declared.Text text) ≡ text_value (seen_text text)
seen_string text = search (rules, declared.the_lemmas)

pub seen_truth : (A : Type 0) (b : Bool) → seen_value {A = A} (declared.Bool b) ≡ bool_value b
seen_truth A b = search (rules, declared.the_lemmas)

pub seen_null : (A : Type 0) → seen_value {A = A} declared.Null ≡ null_value
seen_null A = search (rules, declared.the_lemmas)

pub seen_integer : (A : Type 0) (n : ℤ) → seen_value {A = A} (declared.Int n) ≡ int_value n
seen_integer A n = search (rules, declared.the_lemmas)

-- ---- levels in a list, the innermost last

onto_more : {A : Type 0} (outer : List OpenLevel) (levels : List (Level A)) (level : Level A)
    → onto outer (levels ++ level ∷ []) ≡ seen_level level ∷ onto outer levels
onto_more outer [] level = refl
onto_more outer (first ∷ levels) level = onto_more (seen_level first ∷ outer) levels level

-- a level was pushed, or taken
pub level_more : {A : Type 0} (old new : List (Level A)) (level : Level A) → new ≡ old ++ level ∷ [] → seen_levels new ≡ seen_level level ∷ seen_levels old
level_more old new level is = ap seen_levels is ∙ onto_more [] old level

-- no level is open
pub no_levels : {A : Type 0} (levels : List (Level A)) → length levels ≡ 0 → seen_levels levels ≡ []
no_levels [] none = refl
no_levels (level ∷ levels) none = cc
