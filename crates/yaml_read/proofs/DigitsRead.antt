-- The answers of the readers of digits.
use Rattle.yaml_read.proofs.Common.{ℕ, ◌-◌, ◌<◌, Option, None, Some, List, Bool, refl, ◌≡◌, ◌++◌, arith, nat_tests, and_parts, if◌then◌else◌, Text}
use Rattle.yaml_read.proofs.Common.{encode_utf8_all, is_between, digit_meaning, IfSome, MatchOption, Bor}
use Rattle.yaml_read.specs.Digits.{DigitsRead}

digit_small_by : (c d : ℕ) (low high : Bool) → is_between 48 57 c ≡ low → is_between 65 70 c ≡ high
    → (if low then Some (c - 48) else (if high then Some (c - 55) else None)) ≡ Some d → d < 16
digit_small_by c d low high h1 h2 h3 = grind (arith, nat_tests, and_parts)

pub digit_small : (c d : ℕ) → digit_meaning c ≡ Some d → d < 16
digit_small c d is = digit_small_by c d (is_between 48 57 c) (is_between 65 70 c) refl refl is

pub digits_reads : (few : ℕ) (digits : ℕ → Text) (bytes : List ℕ) (found : Option (ℕ × Bor (List ℕ))) → DigitsRead few digits bytes found
    → (c : ℕ) (rest : Text) → c < few → bytes ≡ encode_utf8_all (digits c ++ rest)
    → MatchOption found ⊥ (λ read. (read.0 ≡ c) × (read.1.now ≡ encode_utf8_all rest))
digits_reads few digits bytes found h1 c rest h2 h3 = grind arith

pub digits_sound : (few : ℕ) (digits : ℕ → Text) (bytes : List ℕ) (found : Option (ℕ × Bor (List ℕ))) → DigitsRead few digits bytes found
    → IfSome found (λ read. bytes ≡ encode_utf8_all (digits read.0) ++ read.1.now) × IfSome found (λ read. read.0 < few)
digits_sound few digits bytes found h1 = grind arith
