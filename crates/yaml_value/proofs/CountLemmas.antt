-- How the count of a value grows by each step of a walk over it.
use Rattle.yaml_value.proofs.Common.{min, ℕ, ◌+◌, ◌<◌, ◌≤◌, List, [], ◌++◌, ◌∷◌, ◌⊎◌, refl, ◌≡◌, inr, ap, sym, ◌∙◌, arith, largest_usize, TypedValue}
use Rattle.std.proofs.{Common.inl, Math.Nat.min-eq_left, Math.Nat.min-eq_right, Math.Nat.min-le_right, lemmas.Bool.cases_lt}
use Rattle.yaml_base.specs.values.TypedValues.{value_count}
use Rattle.yaml_value.specs.Walk.{Left, count_left, entered, stepped}
use Rattle.yaml_value.proofs.WalkLemmas.{count_entered, step_counts}
use Rattle.yaml_base.proofs.Common.{Option, false, false≢true, is_some, option_map, true, true≢false}
use Rattle.std.specs.Prelude.{None, Some}

-- the largest count
abbrev pub most_counted : ℕ
most_counted = largest_usize

one_capped : (a b : ℕ) → min (min a most_counted + b) most_counted ≡ min (a + b) most_counted
one_capped a b = by (cases_lt a most_counted)
  where
    by : (a < most_counted) ⊎ (most_counted ≤ a) → min (min a most_counted + b) most_counted ≡ min (a + b) most_counted
    by (inl x) = ap (λ n. min (n + b) most_counted) (min-eq_left {n = a} {m = most_counted} (omega (arith, x)))
    by (inr x) =
        ap (λ n. min (n + b) most_counted) (min-eq_right {n = most_counted} {m = a} x)
        ∙ min-eq_right {n = most_counted} {m = most_counted + b} (omega arith)
        ∙ sym (min-eq_right {n = most_counted} {m = a + b} (omega (arith, x)))

-- so many are counted, and those that are left are the others of a value
abbrev pub CountsBy : (count : ℕ) → List Left → TypedValue → Type 0
CountsBy count levels value = (min (count + count_left levels) most_counted ≡ min (value_count value) most_counted) × (count ≤ most_counted)

-- a value was entered
pub counts_first : (value : TypedValue) (levels : List Left) → levels ≡ entered value → CountsBy 1 levels value
counts_first value levels is =
    let inside = count_entered value in
    let same = ap count_left is in
    (ap (λ n. min n most_counted) (omega (arith, inside, same)), omega arith)

-- a step entered a value, which is counted
pub counts_more : (levels outer after : List Left) (left : Left) (next : TypedValue) (whole : TypedValue) (count total : ℕ) → levels ≡ outer ++ left ∷ []
    → (Some next, after) ≡ stepped outer left → total ≡ min (count + 1) most_counted → CountsBy count levels whole → CountsBy total after whole
counts_more levels outer after left next whole count total is so sum by =
    let step = step_counts levels outer left (Some next) after is so in (
      ap (λ n. min (n + count_left after) most_counted) sum ∙ one_capped (count + 1) (count_left after)
          ∙ ap (λ n. min n most_counted) (omega (arith, step)) ∙ by.0,
      let most = min-le_right (count + 1) most_counted in omega (arith, sum, most),
    )

-- a step found nothing more
pub counts_same : (levels outer after : List Left) (left : Left) (whole : TypedValue) (count : ℕ) → levels ≡ outer ++ left ∷ []
    → (None, after) ≡ stepped outer left → CountsBy count levels whole → CountsBy count after whole
counts_same levels outer after left whole count is so by =
    let step = step_counts levels outer left None after is so in
    (ap (λ n. min n most_counted) (omega (arith, step)) ∙ by.0, by.1)

-- the same by whether it entered one
pub counts_some : (levels outer after : List Left) (left : Left) (next : Option TypedValue) (whole : TypedValue) (count total : ℕ)
    → levels ≡ outer ++ left ∷ [] → (next, after) ≡ stepped outer left → is_some next ≡ true → total ≡ min (count + 1) most_counted
    → CountsBy count levels whole → CountsBy total after whole
counts_some levels outer after left None whole count total is so some sum by = absurd (false≢true some)
counts_some levels outer after left (Some next) whole count total is so some sum by = counts_more levels outer after left next whole count total is so sum by

pub counts_none : (levels outer after : List Left) (left : Left) (next : Option TypedValue) (whole : TypedValue) (count : ℕ)
    → levels ≡ outer ++ left ∷ [] → (next, after) ≡ stepped outer left → is_some next ≡ false → CountsBy count levels whole → CountsBy count after whole
counts_none levels outer after left None whole count is so none by = counts_same levels outer after left whole count is so by
counts_none levels outer after left (Some next) whole count is so none by = absurd (true≢false none)

-- whether a value was entered is seen
pub is_some-map : {A B : Type 0} (f : A → B) (option : Option A) → is_some (option_map f option) ≡ is_some option
is_some-map f None = refl
is_some-map f (Some x) = refl
