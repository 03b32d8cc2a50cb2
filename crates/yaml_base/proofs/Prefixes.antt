-- Prefixes of lists.
use Rattle.yaml_base.proofs.Common.{nat_tests, ℕ, ◌-◌, ◌≤◌, length, take, List, [], ◌++◌, refl, ◌≡◌, append-nil, append_assoc, ap, sym, ◌∙◌, arith}
use Rattle.std.proofs.Math.Seq.{take-append-add}
use Rattle.yaml_base.specs.Prefix.{IsPrefix}

-- equal lists
pub prefix_same : {A : Type 0} (xs ys : List A) → xs ≡ ys → IsPrefix xs ys
prefix_same xs ys is = record { rest = []; parts = append-nil xs ∙ is }

-- a list is its own prefix
pub prefix_itself : {A : Type 0} (xs : List A) → IsPrefix xs xs
prefix_itself xs = prefix_same xs xs refl

-- a prefix's prefix
pub prefix_then : {A : Type 0} {xs ys zs : List A} → IsPrefix xs ys → IsPrefix ys zs → IsPrefix xs zs
prefix_then {A} {xs} {ys} {zs} first next = grind (arith, nat_tests, append_assoc)

-- a cut after a list's end keeps the list
pub prefix_cut : {A : Type 0} (n : ℕ) (xs ys : List A) → length xs ≤ n → IsPrefix xs (take n (xs ++ ys))
prefix_cut n xs ys within =
    record {
      rest = take (n - length xs) ys;
      parts = sym (take-append-add xs ys (n - length xs)) ∙ ap (λ m. take m (xs ++ ys)) (omega (arith, within));
    }
