-- `n & (n - 1)` clears the lowest bit that is set.
use Rattle.yaml_json.proofs.Common.{◌≡◌, ℕ, zero, suc, ◌+◌, ◌-◌, ◌*◌, ◌%◌, ◌<◌, ◌≤◌, min, sym, ap, ap₂, ◌∙◌, arith, bit_at, bit_and}
use Rattle.std.proofs.{Common.◌/◌, lemmas.Nat.Bits.bit_at_lowest, lemmas.Nat.Bits.bit_at-suc}
use lib.Bits.{and_step, and_self}

odd_cleared : (n : ℕ) → n % 2 ≡ 1 → bit_and n (n - 1) ≡ n / 2 * 2 + 0
odd_cleared n odd =
    let half : (n - 1) / 2 ≡ n / 2 = omega arith in
    let low : min (n % 2) ((n - 1) % 2) ≡ 0 = omega arith in
    and_step n (n - 1) ∙ ap₂ (λ u v. u * 2 + v) (ap (bit_and (n / 2)) half ∙ and_self (n / 2)) low

even_cleared : (n : ℕ) → n % 2 ≡ 0 → bit_and n (n - 1) ≡ bit_and (n / 2) (n / 2 - 1) * 2 + 0
even_cleared n even =
    let half : (n - 1) / 2 ≡ n / 2 - 1 = omega arith in
    let low : min (n % 2) ((n - 1) % 2) ≡ 0 = omega arith in
    and_step n (n - 1) ∙ ap₂ (λ u v. u * 2 + v) (ap (bit_and (n / 2)) half) low

even_low : (n half : ℕ) → n ≡ half * 2 + 0 → bit_at n 0 ≡ 0
even_low n half is = let low : n % 2 ≡ 0 = omega (arith, is) in bit_at_lowest n ∙ low

even_next : (n half k : ℕ) → n ≡ half * 2 + 0 → bit_at n (suc k) ≡ bit_at half k
even_next n half k is = let next : n / 2 ≡ half = omega (arith, is) in bit_at-suc n k ∙ ap (λ m. bit_at m k) next

pub lowest_cleared : (place n : ℕ) → bit_at n place ≡ 1 → ((k : ℕ) → k < place → bit_at n k ≡ 0) → (k : ℕ)
    → (k ≤ place → bit_at (bit_and n (n - 1)) k ≡ 0) × (place < k → bit_at (bit_and n (n - 1)) k ≡ bit_at n k)
lowest_cleared zero n set clear zero =
    let odd = odd_cleared n (sym (bit_at_lowest n) ∙ set) in
    (λ low. even_low (bit_and n (n - 1)) (n / 2) odd, λ high. let never : ⊥ = omega (arith, high) in absurd never)
lowest_cleared zero n set clear (suc k) =
    let odd = odd_cleared n (sym (bit_at_lowest n) ∙ set) in (
      λ low. let never : ⊥ = omega (arith, low) in absurd never,
      λ high. even_next (bit_and n (n - 1)) (n / 2) k odd ∙ sym (bit_at-suc n k),
    )
lowest_cleared (suc place) n set clear zero =
    let even = even_cleared n (sym (bit_at_lowest n) ∙ clear 0 (omega arith)) in (
      λ low. even_low (bit_and n (n - 1)) (bit_and (n / 2) (n / 2 - 1)) even,
      λ high. let never : ⊥ = omega (arith, high) in absurd never,
    )
lowest_cleared (suc place) n set clear (suc k) =
    let even = even_cleared n (sym (bit_at_lowest n) ∙ clear 0 (omega arith)) in
    let rest = lowest_cleared place (n / 2) (sym (bit_at-suc n place) ∙ set) (λ j low. sym (bit_at-suc n j) ∙ clear (suc j) (omega (arith, low))) k in (
      λ low. even_next (bit_and n (n - 1)) (bit_and (n / 2) (n / 2 - 1)) k even ∙ rest.0 (omega (arith, low)),
      λ high. even_next (bit_and n (n - 1)) (bit_and (n / 2) (n / 2 - 1)) k even ∙ rest.1 (omega (arith, high)) ∙ sym (bit_at-suc n k),
    )
