-- The number of values that a drop has in hand, and that each turn of its loop goes on.
use Rattle.toml_ordered.proofs.Common.{List, [], ◌∷◌, map, length, set, get_or, Result, Ok, Err, ◌≡◌, ℕ, zero, suc, ◌+◌, ◌-◌, ◌<◌, ◌≤◌, Option, Some, None, Vec}
use Rattle.toml_ordered.proofs.Common.{Global, refl, ap, subst, sym, ◌∙◌, arith, rules, node_count, Table, the_lemmas, Origin}
use Rattle.std.proofs.{Common.sum_by, Common.◌*◌, Common.vec_len, lemmas.List.Sums.sum-map, lemmas.List.Sums.sum_by-cons, lemmas.List.Sums.sum_by-set}
use Rattle.toml_ordered.specs.{declared.tree.Node.Node, declared.tree.Node.Array, declared.tree.Node.Tables, declared.tree.Table.Table as CodeTable}
use Rattle.toml_ordered.specs.Counts.{IsEntered, IsExchanged, IsLeft, IsPopped, table_count, tables_count}

-- Of so many values in all, and so many of them in the value that is entered next: a turn enters one inside, or fewer are left.
abbrev pub turns : (all hand : ℕ) → ℕ
turns all hand = hand + all * all

-- ---- of a value, when those inside are counted

sum_by-map : {A B : Type 0} (f : A → B) (g : B → ℕ) (xs : List A) → sum_by g (map f xs) ≡ sum_by (λ x. g (f x)) xs
sum_by-map f g [] = refl
sum_by-map f g (x ∷ xs) = sum_by-cons g (f x) (map f xs) ∙ ap (λ n. g (f x) + n) (sum_by-map f g xs) ∙ sym (sum_by-cons (λ y. g (f y)) x xs)

pub node_count-Array : (items : Vec Node Global) → node_count (Array items) ≡ suc (sum_by node_count items.items)
node_count-Array items = search (rules, the_lemmas, sum-map, sum_by-map)

pub node_count-Table : (origin : Origin) (t : CodeTable) → node_count (Table origin t) ≡ suc (table_count t)
node_count-Table origin t = search (rules, the_lemmas, sum-map, sum_by-map)

pub node_count-Tables : (done : Vec Node Global) (last : CodeTable) → node_count (Tables done last) ≡ tables_count done.items last
node_count-Tables done last = search (rules, the_lemmas, sum-map, sum_by-map)

-- a value is taken out, and another put into its place
within : {E : Type 0} (counts : E → ℕ) (xs : List E) (i : ℕ) (d : E) → i < length xs → counts (get_or xs i d) ≤ sum_by counts xs
within counts [] i d less = absurd (omega (arith, less))
within counts (x ∷ xs) zero d less = omega (arith, sum_by-cons counts x xs)
within counts (x ∷ xs) (suc i) d less = let inside = within counts xs i d (omega (arith, less)) in omega (arith, sum_by-cons counts x xs, inside)

pub exchanged : {E X : Type 0} (counts : E → ℕ) (count : X → ℕ) (xs : Vec E Global) (d y : E) (inner other : X) → 0 < vec_len xs
    → counts (get_or xs.items (vec_len xs - 1) d) ≡ count inner → counts y ≡ count other
    → (sum_by counts (set xs.items (vec_len xs - 1) y) + count inner ≡ sum_by counts xs.items + count other) × (count inner ≤ sum_by counts xs.items)
exchanged counts count xs d y inner other some was is =
    let less : vec_len xs - 1 < length xs.items = omega (arith, some, xs.ok.0) in (
      omega (arith, was, is, sum_by-set counts xs.items (vec_len xs - 1) y d less),
      subst (λ n. n ≤ sum_by counts xs.items) was (within counts xs.items (vec_len xs - 1) d less),
    )

-- the last of those inside is taken out
pub entered : {E X : Type 0} (counts : E → ℕ) (count : X → ℕ) (xs ys : List E) (old new : ℕ) (other : X) (result : Result X X)
    → old ≡ suc (sum_by counts xs) → new ≡ suc (sum_by counts ys) → IsExchanged counts count xs ys other result → IsEntered count old new other result
entered counts count xs ys old new other (Ok inner) was is exchanged = (omega (arith, was, is, exchanged), omega (arith, was, exchanged.1))
entered counts count xs ys old new other (Err back) was is exchanged =
    (exchanged.2, was ∙ ap (λ es. suc (sum_by counts es)) exchanged.0, is ∙ ap (λ es. suc (sum_by counts es)) exchanged.1)

pub left : {E X : Type 0} (counts : E → ℕ) (count : X → ℕ) (xs ys : List E) (old new : ℕ) (result : Option X)
    → old ≡ suc (sum_by counts xs) → new ≡ suc (sum_by counts ys) → IsPopped counts count xs ys result → IsLeft count old new result
left counts count xs ys old new (Some inner) was is popped = omega (arith, was, is, popped)
left counts count xs ys old new None was is popped = (was ∙ ap (λ es. suc (sum_by counts es)) popped.0, is ∙ ap (λ es. suc (sum_by counts es)) popped.1)

-- ---- no value inside

pub node_counts : (x : Node) → 0 < node_count x
node_counts x = search (rules, the_lemmas)

nothing : {E : Type 0} (counts : E → ℕ) → ((e : E) → 0 < counts e) → (es : List E) → sum_by counts es ≡ 0 → es ≡ []
nothing counts some [] none = refl
nothing counts some (e ∷ es) none = absurd (omega (arith, some e, none, sum_by-cons counts e es))

pub none_in : {E : Type 0} (counts : E → ℕ) → ((e : E) → 0 < counts e) → (es : Vec E Global) → sum_by counts es.items ≡ 0 → vec_len es ≡ 0
none_in counts some es none = es.ok.0 ∙ ap length (nothing counts some es.items none)
