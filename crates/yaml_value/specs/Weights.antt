-- The weight of a value, by which the loop that drops it ends.
use Rattle.std.specs.Prelude.{◌≡◌, ℕ, suc, ◌+◌, ◌≤◌, ◌<◌, List, MatchResult, Result, sum_by}
use Rattle.yaml_value.specs.declared.value.Value.{Value, fold-Value}
use Rattle.yaml_value.specs.declared.value.Value.TheOpen.{Value-F}

-- The weight of a pair, by those of its key and its value: a key weighs double, since it is taken out after its value.
abbrev pub pair_weight : ℕ × ℕ → ℕ
pair_weight pair = suc (pair.0 + pair.0 + pair.1)

-- The weight of one level of a value, by those of the values in it: a list or a map weighs one, and one more for each item or pair.
abbrev pub weight_level : {A : Type 0} → Value-F A ℕ → ℕ
weight_level Value-F.Null = 0
weight_level (Value-F.Bool b) = 0
weight_level (Value-F.Int n) = 0
weight_level (Value-F.Text text) = 0
weight_level (Value-F.List items) = suc (sum_by suc items.items)
weight_level (Value-F.Map pairs) = suc (sum_by pair_weight pairs.items)

-- The weight of a value.
abbrev pub value_weight : {A : Type 0} → Value A → ℕ
value_weight {A} = fold-Value A ℕ weight_level

-- The weight of a list of these items.
abbrev pub items_weight : {A : Type 0} → List (Value A) → ℕ
items_weight items = suc (sum_by (λ item. suc (value_weight item)) items)

-- The weight of a map of these pairs.
abbrev pub pairs_weight : {A : Type 0} → List (Value A × Value A) → ℕ
pairs_weight pairs = suc (sum_by (λ pair. pair_weight (value_weight pair.0, value_weight pair.1)) pairs)

-- A value inside was taken out, and another put into its place; or there is none inside, and the other is returned.
abbrev pub IsExchanged : {X : Type 0} → (old new : ℕ) → (weight : X → ℕ) → X → Result X X → Type 0
IsExchanged old new weight other result = MatchResult result
    (λ inner. (new + weight inner ≡ old + weight other) × (weight inner < old))
    (λ back. (back ≡ other) × (old ≤ 1) × (new ≤ 1))
