-- A number is read digit by digit, and no further than its greatest value.
use Rattle.yaml_tool.proofs.Common.{ℕ, ◌*◌, ◌+◌, ◌<◌, ◌≤◌, if◌then◌else◌, Option, None, Some, Bool, false, true, List, [], ◌∷◌, refl, ◌≡◌, subst, sym, arith}
use Rattle.yaml_tool.proofs.Common.{nat_tests, digit_value, number_after}
use Rattle.yaml_base.proofs.Common.{nat_le, nat_lt, ◌&&◌, list_all}
use Rattle.std.{proofs.Math.Nat.mul-le-mul_left, specs.Char.is_digit, specs.Str.Parse.digits_value_after}

lt_true : (a b : ℕ) → a < b → nat_lt a b ≡ true
lt_true a b h = grind (arith, nat_tests)

lt_false : (a b : ℕ) → b ≤ a → nat_lt a b ≡ false
lt_false a b h = grind (arith, nat_tests)

le_false : (a b : ℕ) → b < a → nat_le a b ≡ false
le_false a b h = grind (arith, nat_tests)

-- more digits make no number less
pub grows : (radix number : ℕ) (rest : List ℕ) → 1 ≤ radix → number ≤ digits_value_after radix number rest
grows radix number [] positive = omega arith
grows radix number (c ∷ rest) positive =
    let more : number * 1 ≤ number * radix = mul-le-mul_left number positive in
    omega (arith, more, grows radix (number * radix + digit_value c) rest positive)

taken : (first others within : Bool) (x : Option ℕ) → first ≡ true → (if (first && others) && within then x else None) ≡ (if others && within then x else None)
taken first others within x h = subst (λ (b : Bool). (if (b && others) && within then x else None) ≡ (if others && within then x else None)) (sym h) refl

refused : (first others within : Bool) (x : Option ℕ) → first ≡ false → (if (first && others) && within then x else None) ≡ None
refused first others within x h = subst (λ (b : Bool). (if (b && others) && within then x else None) ≡ None) (sym h) refl

beyond : (digits within : Bool) (x : Option ℕ) → within ≡ false → (if digits && within then x else None) ≡ None
beyond true within x h = subst (λ (b : Bool). (if true && b then x else None) ≡ None) (sym h) refl
beyond false within x h = refl

-- past the greatest value there is no way back
pub too_great : (radix most number : ℕ) (rest : List ℕ) → 1 ≤ radix → most < number → number_after radix most number rest ≡ None
too_great radix most number rest positive above = grind (arith, digits_value_after, grows, beyond, list_all, is_digit, nat_le, le_false)

-- a digit is taken
next_digit : (radix most number c : ℕ) (rest : List ℕ) → digit_value c < radix
    → number_after radix most number (c ∷ rest) ≡ number_after radix most (number * radix + digit_value c) rest
next_digit radix most number c rest is = grind (arith, digits_value_after, digit_value, taken, is_digit, list_all, nat_le, lt_true)

-- anything else is not
no_digit : (radix most number c : ℕ) (rest : List ℕ) → radix ≤ digit_value c → number_after radix most number (c ∷ rest) ≡ None
no_digit radix most number c rest is_not = grind (arith, digits_value_after, digit_value, refused, is_digit, list_all, nat_le, lt_false)

-- a digit that begins a text counts
pub digit_first : (radix most number base d c : ℕ) (text rest : List ℕ) → base ≡ radix → text ≡ c ∷ rest → d ≡ digit_value c → d < radix
    → number_after radix most number text ≡ number_after radix most (number * base + d) rest
digit_first radix most number base d c text rest is_base begins is small = grind (arith, next_digit)

pub no_digit_first : (radix most number c : ℕ) (text rest : List ℕ) → text ≡ c ∷ rest → radix ≤ digit_value c → number_after radix most number text ≡ None
no_digit_first radix most number c text rest begins is_not = rw begins (no_digit radix most number c rest is_not)
