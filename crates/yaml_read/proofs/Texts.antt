-- The texts of a program's values are strings, so they consist of Unicode scalar values.
use Rattle.yaml_read.proofs.Common.{List, [], ◌∷◌, subst, sym, map, TypedValue, TypedValues, no_values, values_and, TypedPairs, no_value_pairs, value_pairs_and}
use Rattle.yaml_read.proofs.Common.{string_bytes, IsUtf8-string_bytes, scalars-chars, seen_value, Value, HasScalarTexts, HaveScalarTexts, PairsHaveScalarTexts}
use Rattle.yaml_value.{specs.SeenValues.seen_value_level, specs.SeenValues.values_of, specs.SeenValues.pairs_of}
use Rattle.yaml_value.{specs.declared.value.Value.TheFolds.fold-roll-Value, specs.declared.value.Value.TheFolds.ind-Value}
use Rattle.yaml_value.{specs.declared.value.Value.TheFolds.map-Value, specs.declared.value.Value.TheOpen.Value-F}

-- a value with its fact
abbrev Held : Type 0 → Type 0
Held A = (value : Value A) × HasScalarTexts (seen_value value)

items_texts : {A : Type 0} (before : TypedValues) → HaveScalarTexts before → (items : List (Held A))
    → HaveScalarTexts (values_of before (map seen_value (map (λ (item : Held A). item.0) items)))
items_texts before texts [] = texts
items_texts before texts (item ∷ items) = items_texts (values_and before (seen_value item.0)) (texts, item.1) items

-- a pair without its facts, and as it is seen
abbrev bare : {A : Type 0} → Held A × Held A → Value A × Value A
bare pair = (pair.0.0, pair.1.0)

abbrev seen_pair : {A : Type 0} → Value A × Value A → TypedValue × TypedValue
seen_pair pair = (seen_value pair.0, seen_value pair.1)

pairs_texts : {A : Type 0} (before : TypedPairs) → PairsHaveScalarTexts before → (pairs : List (Held A × Held A))
    → PairsHaveScalarTexts (pairs_of before (map seen_pair (map bare pairs)))
pairs_texts before texts [] = texts
pairs_texts before texts (pair ∷ pairs) = pairs_texts (value_pairs_and before (seen_value pair.0.0) (seen_value pair.1.0)) (texts, (pair.0.1, pair.1.1)) pairs

level_texts : {A : Type 0} (level : Value-F A (Held A))
    → HasScalarTexts (seen_value_level (map-Value A (Value A) TypedValue seen_value (map-Value A (Held A) (Value A) (λ held. held.0) level)))
level_texts (Value-F.Text text) = scalars-chars (string_bytes text) (IsUtf8-string_bytes text)
level_texts (Value-F.List items) = items_texts no_values tt items.items
level_texts (Value-F.Map pairs) = pairs_texts no_value_pairs tt pairs.items
level_texts _ = tt

-- so are those of each value
pub texts_of : (A : Type 0) (value : Value A) → HasScalarTexts (seen_value value)
texts_of A value =
    ind-Value A (λ value. HasScalarTexts (seen_value value)) (λ x y is.
    subst HasScalarTexts (sym (fold-roll-Value A TypedValue seen_value_level x))
    (subst (λ level. HasScalarTexts (seen_value_level (map-Value A (Value A) TypedValue seen_value level))) is (level_texts y))) value
