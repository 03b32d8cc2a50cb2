-- A text's first characters, as they are taken one after another.
use Rattle.yaml_scalar.proofs.Common.{arith, ℕ, ◌==◌, chars, IsUtf8, length, false, true, ◌&&◌, ◌||◌, List, ◌++◌, ◌∷◌, ◌≡◌, eqb-true, true≢false, ap}
use Rattle.yaml_scalar.proofs.Common.{sym, ◌∙◌, IsUtf8-past_char, chars_past_char, encode_utf8, Text, begins_like_marker, begins_unlike_plain, nat_tests}
use Rattle.yaml_scalar.proofs.Common.{is_ordinary, false_from_ne_true}
use Rattle.std.proofs.StrCases.{chars_of_empty}

pub marker-of-three : (bs r₁ r₂ r₃ : List ℕ) (a b c : ℕ) → IsUtf8 bs
    → bs ≡ encode_utf8 a ++ r₁ → r₁ ≡ encode_utf8 b ++ r₂ → r₂ ≡ encode_utf8 c ++ r₃
    → ((a == 45 || a == 46) && b == a && c == a) ≡ begins_like_marker (chars bs)
marker-of-three bs r₁ r₂ r₃ a b c u e₁ e₂ e₃ =
    let u₁ = IsUtf8-past_char bs r₁ a u e₁ in
    let u₂ = IsUtf8-past_char r₁ r₂ b u₁ e₂ in
    rw (chars_past_char bs r₁ a u e₁, chars_past_char r₁ r₂ b u₁ e₂, chars_past_char r₂ r₃ c u₂ e₃)

pub marker-of-two : (bs r₁ r₂ : List ℕ) (a b : ℕ) → IsUtf8 bs
    → bs ≡ encode_utf8 a ++ r₁ → r₁ ≡ encode_utf8 b ++ r₂ → length r₂ ≡ 0
    → false ≡ begins_like_marker (chars bs)
marker-of-two bs r₁ r₂ a b u e₁ e₂ e₃ =
    let u₁ = IsUtf8-past_char bs r₁ a u e₁ in
    rw (chars_past_char bs r₁ a u e₁, chars_past_char r₁ r₂ b u₁ e₂, chars_of_empty r₂ e₃)

pub marker-of-one : (bs r₁ : List ℕ) (a : ℕ) → IsUtf8 bs → bs ≡ encode_utf8 a ++ r₁ → length r₁ ≡ 0
    → false ≡ begins_like_marker (chars bs)
marker-of-one bs r₁ a u e₁ e₂ = rw (chars_past_char bs r₁ a u e₁, chars_of_empty r₁ e₂)

-- a letter or a digit is no other character
pub other_than : (c k : ℕ) → is_ordinary c ≡ true → is_ordinary k ≡ false → (c == k) ≡ false
other_than c k h e = false_from_ne_true (c == k) (λ same. true≢false (sym h ∙ ap is_ordinary (eqb-true c k same) ∙ e))

no_exclamation : (c : ℕ) (rest : Text) → (c == 45) ≡ false → (c == 46) ≡ false → begins_like_marker (c ∷ rest) ≡ false
no_exclamation c rest e f = grind (arith, nat_tests)

-- so a text that begins with one begins as plain text may
pub ordinary_plain : (c : ℕ) (rest : Text) → is_ordinary c ≡ true → begins_unlike_plain (c ∷ rest) ≡ false
ordinary_plain c rest h = grind (arith, other_than, no_exclamation)
