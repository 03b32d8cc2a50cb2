-- A conversion of each file by itself.
use Rattle.std.proofs.Common.{ℕ, List, [], ◌∷◌, ◌++◌, map, ◌≡◌, ◌⊎◌, inl, inr, ap, arith, subst, sym, ◌∙◌, Bor, ◌+◌, ◌<◌, length, take, le_refl, take_all}
use Rattle.std.proofs.Common.{slice_index_or as get_or}
use Rattle.std.{proofs.lemmas.Grind.common_steps, proofs.lemmas.List.map_push, proofs.lemmas.List.take_more, proofs.lemmas.List.Quantifiers.Any-push}
use Rattle.std.{specs.List.Any}
use Rattle.yaml_program.specs.Conversions.{HoldsOfEach}

-- One more name.
pub push_each : (P : List ℕ → Type 0) (names : List (List ℕ)) (name : List ℕ) → HoldsOfEach P names → P name → HoldsOfEach P (names ++ name ∷ [])
push_each P [] name all one = (one, tt)
push_each P (first ∷ names) name all one = (all.0, push_each P names name all.1 one)

-- The names before the next, and it.
taken_next : (names : List (Bor (List ℕ))) (index : ℕ) (name : Bor (List ℕ)) → index < length names
    → map (λ n. n.now) (take (index + 1) names) ≡ map (λ n. n.now) (take index names) ++ (get_or names index name).now ∷ []
taken_next names index name within =
    ap (map (λ (n : Bor (List ℕ)). n.now)) (take_more names index name within)
    ∙ map_push (λ (n : Bor (List ℕ)). n.now) (take index names) (get_or names index name)

-- The next name of a list.
pub next_done : (P : List ℕ → Type 0) (names : List (Bor (List ℕ))) (index : ℕ) (name : Bor (List ℕ)) → index < length names
    → HoldsOfEach P (map (λ n. n.now) (take index names)) → P (get_or names index name).now
    → HoldsOfEach P (map (λ n. n.now) (take (index + 1) names))
next_done P names index name within all one =
    subst (λ (all : List (List ℕ)). HoldsOfEach P all) (sym (taken_next names index name within))
    (push_each P (map (λ n. n.now) (take index names)) (get_or names index name).now all one)

-- ---- one of the names

keep_any : (P : List ℕ → Type 0) (names : List (List ℕ)) (name : List ℕ) → Any P names → Any P (names ++ name ∷ [])
keep_any P names name (k, found, within, at, holds) = (k, found, grind (arith, common_steps), grind (arith, common_steps), holds)

-- The status of the names before the next or of it alone tells what holds of one of them.
pub next_some : (P : List ℕ → Type 0) (names : List (Bor (List ℕ))) (index : ℕ) (name : Bor (List ℕ)) (status before next worst : ℕ) → index < length names
    → (worst ≡ before) ⊎ (worst ≡ next) → (before ≡ status → Any P (map (λ n. n.now) (take index names)))
    → (next ≡ status → P (get_or names index name).now) → worst ≡ status → Any P (map (λ n. n.now) (take (index + 1) names))
next_some P names index name status before next worst within one some last is =
    subst (Any P) (sym (taken_next names index name within)) (by_one one) where
      by_one : (worst ≡ before) ⊎ (worst ≡ next) → Any P (map (λ n. n.now) (take index names) ++ (get_or names index name).now ∷ [])
      by_one (inl same) = keep_any P (map (λ n. n.now) (take index names)) (get_or names index name).now (some (sym same ∙ is))
      by_one (inr same) = Any-push P (map (λ n. n.now) (take index names)) (get_or names index name).now (last (sym same ∙ is))

-- All names were taken.
pub of_all : (P : List (List ℕ) → Type 0) (names same : List (Bor (List ℕ))) (index : ℕ) → index ≡ length names → names ≡ same
    → P (map (λ n. n.now) (take index names)) → P (map (λ n. n.now) same)
of_all P names same index past is holds =
    subst (λ (all : List (Bor (List ℕ))). P (map (λ n. n.now) all))
    (ap (λ (n : ℕ). take n names) past ∙ take_all (length names) names (le_refl (length names)) ∙ is) holds
