-- How a turn of the loop that drops a value goes on.
use Rattle.yaml_value.proofs.Common.{ℕ, suc, ◌+◌, ◌<◌, ◌≤◌, List, [], ◌∷◌, ◌++◌, map, refl, ◌≡◌, ap, subst, sym, ◌∙◌, arith}
use Rattle.std.proofs.Common.{◌*◌, Vec, rules, sum_by, vec_len, length}
use Rattle.std.proofs.Math.Nat.{mul-suc, suc-mul}
use Rattle.std.proofs.lemmas.List.Sums.{sum-map, sum_by-cons, sum_by_push}
use Rattle.std.specs.Prelude.{Result}
use Rattle.std.proofs.lemmas.Nat.{mul-le}
use Rattle.yaml_value.specs.Weights.{IsExchanged, items_weight, pair_weight, pairs_weight, value_weight}
use Rattle.yaml_value.specs.declared.value.Value as declared
use Rattle.yaml_value.specs.declared.value.Value.{Value}

-- The measure of a turn, by the weight of all and of the value in hand: a turn takes one inside in hand, or all weighs less.
abbrev pub turns : (all hand : ℕ) → ℕ
turns all hand = hand + all * all

pub goes_out : (all all2 hand hand2 : ℕ) → all2 < all → hand2 ≤ all2 → turns all2 hand2 < turns all hand
goes_out all all2 hand hand2 less within =
    omega (arith, less, within, mul-le (suc all2) (suc all2) all all less less, suc-mul all2 (suc all2), mul-suc all2 all2)

-- ---- the weight of a list and of a map

sum_by-map : {A B : Type 0} (f : A → B) (g : B → ℕ) (xs : List A) → sum_by g (map f xs) ≡ sum_by (λ x. g (f x)) xs
sum_by-map f g [] = refl
sum_by-map f g (x ∷ xs) =
    sum_by-cons g (f x) (map f xs) ∙ ap (λ n. g (f x) + n) (sum_by-map f g xs) ∙ sym (sum_by-cons (λ y. g (f y)) x xs)

pub weight-List : {A : Type 0} (items : Vec (Value A) A) → value_weight (declared.List items) ≡ items_weight items.items
weight-List items = search (rules, declared.the_lemmas, sum-map, sum_by-map)

pub weight-Map : {A : Type 0} (pairs : Vec (Value A × Value A) A) → value_weight (declared.Map pairs) ≡ pairs_weight pairs.items
weight-Map pairs = search (rules, declared.the_lemmas, sum-map, sum_by-map)

-- nothing is in a list that weighs at most one
empty_sum : {E : Type 0} (weight : E → ℕ) → ((e : E) → 0 < weight e) → (es : List E) → suc (sum_by weight es) ≤ 1 → length es ≡ 0
empty_sum weight some [] light = refl
empty_sum weight some (e ∷ es) light = let all = sum_by-cons weight e es in let one = some e in absurd (omega (arith, light, all, one))

pub no_items : {A : Type 0} (items : Vec (Value A) A) → items_weight items.items ≤ 1 → vec_len items ≡ 0
no_items items light = items.ok.0 ∙ empty_sum (λ item. suc (value_weight item)) (λ item. omega arith) items.items light

pub no_pairs : {A : Type 0} (pairs : Vec (Value A × Value A) A) → pairs_weight pairs.items ≤ 1 → vec_len pairs ≡ 0
no_pairs pairs light = pairs.ok.0
    ∙ empty_sum (λ pair. pair_weight (value_weight pair.0, value_weight pair.1)) (λ pair. omega arith) pairs.items light

pub weight-Null : (A : Type 0) → value_weight {A = A} declared.Null ≡ 0
weight-Null A = search (rules, declared.the_lemmas)

pub exchanged_as : {X : Type 0} (old new was is : ℕ) (weight : X → ℕ) (other : X) (result : Result X X) → old ≡ was → new ≡ is
    → IsExchanged was is weight other result → IsExchanged old new weight other result
exchanged_as old new was is weight other result first second exchanged =
    subst (λ n. IsExchanged n new weight other result) (sym first) (subst (λ n. IsExchanged was n weight other result) (sym second) exchanged)

-- ---- a value is taken out

-- the last item
pub items_less : {A : Type 0} (old new : List (Value A)) (waiting : Value A) (left : ℕ) → old ≡ new ++ waiting ∷ [] → left ≡ items_weight new
    → left + value_weight waiting < items_weight old
items_less {A} old new waiting left is now =
    let all = ap (items_weight {A = A}) is in
    let push = sum_by_push (λ (item : Value A). suc (value_weight item)) new waiting in
    omega (arith, all, push, now)

-- the last pair
pub pairs_less : {A : Type 0} (old new : List (Value A × Value A)) (key waiting : Value A) (left : ℕ) → old ≡ new ++ (key, waiting) ∷ []
    → left ≡ pairs_weight new → left + value_weight waiting < pairs_weight old
pairs_less {A} old new key waiting left is now =
    let all = ap (pairs_weight {A = A}) is in
    let push = sum_by_push (λ (pair : Value A × Value A). pair_weight (value_weight pair.0, value_weight pair.1)) new (key, waiting) in
    omega (arith, all, push, now)

-- the key of the last pair
pub key_less : {A : Type 0} (old between new : List (Value A × Value A)) (key null waiting : Value A) (left : ℕ) → old ≡ between ++ (key, waiting) ∷ []
    → new ≡ between ++ (null, waiting) ∷ [] → value_weight null ≡ 0 → 0 < value_weight key → left ≡ pairs_weight new
    → value_weight key + left < pairs_weight old
key_less {A} old between new key null waiting left is put none some now =
    let all = ap (pairs_weight {A = A}) is in
    let after = ap (pairs_weight {A = A}) put in
    let push = sum_by_push (λ (pair : Value A × Value A). pair_weight (value_weight pair.0, value_weight pair.1)) between (key, waiting) in
    let push_null = sum_by_push (λ (pair : Value A × Value A). pair_weight (value_weight pair.0, value_weight pair.1)) between (null, waiting) in
    omega (arith, all, after, push, push_null, now, none, some)
