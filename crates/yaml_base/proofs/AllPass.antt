-- If one test implies another, items that pass it pass the other; also for whole lists.
use Rattle.yaml_base.proofs.Common.{arith}
use Rattle.std.proofs.lemmas.List.Sums.{AllPass-from_list_all}
use Rattle.yaml_base.proofs.Common.{Bool, false, true, List, [], ◌∷◌, refl, ◌≡◌, and_parts, and_from, or_parts, or_from, list_all, list_any, All}

-- if all pass a test, all pass another
pub all_pass : {X : Type 0} (test other : X → Bool) → ((x : X) → test x ≡ true → other x ≡ true) → (xs : List X)
    → list_all test xs ≡ true → list_all other xs ≡ true
all_pass test other follows [] h = refl
all_pass test other follows (x ∷ xs) h = grind (arith, and_parts, and_from, or_parts, or_from, all_pass test other follows xs)

-- or none does
pub none_pass : {X : Type 0} (test other : X → Bool) → ((x : X) → test x ≡ true → other x ≡ false) → (xs : List X)
    → list_all test xs ≡ true → list_any other xs ≡ false
none_pass test other follows [] h = refl
none_pass test other follows (x ∷ xs) h = grind (arith, and_parts, and_from, or_parts, or_from, none_pass test other follows xs)

-- if none passes a test, none passes a stronger one
pub fewer_pass : {X : Type 0} (test other : X → Bool) → ((x : X) → test x ≡ false → other x ≡ false) → (xs : List X)
    → list_any test xs ≡ false → list_any other xs ≡ false
fewer_pass test other follows [] h = refl
fewer_pass test other follows (x ∷ xs) h = grind (arith, and_parts, and_from, or_parts, or_from, fewer_pass test other follows xs)

-- so a cut at the items that pass the other is no cut
pub uncut_by : {X : Type 0} (test other : X → Bool) → ((x : X) → test x ≡ true → other x ≡ false) → (xs : List X)
    → list_all test xs ≡ true → All (λ x. other x ≡ false) xs
uncut_by test other follows xs h k d within = follows _ (AllPass-from_list_all test xs h k d within)
