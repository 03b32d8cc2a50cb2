-- A text may be cut at a byte of ASCII.
use Rattle.yaml_json.proofs.Common.{◌≡◌, ℕ, ◌<◌, List, [], ◌∷◌, drop, get_or, length, inl, inr, sym, ap, ◌∙◌, arith, IsCharBoundary, head, cases_lt}
use Rattle.yaml_json.proofs.Common.{IsCharBoundary-after_ascii, drop_all, drop_more}
use Rattle.std.specs.Str.{IsUtf8}

pub after_first : (d : List ℕ) (v : ℕ) → IsUtf8 d → head d ≡ v → v < 128 → (32 ≡ v → ⊥) → IsCharBoundary d 1
after_first [] v u e small apart = absurd (apart e)
after_first (x ∷ xs) v u e small apart = IsCharBoundary-after_ascii (x ∷ xs) 0 u (omega arith) (omega (arith, e))

-- the byte at a place, which isn't the blank past the end
pub found_at : (d : List ℕ) (i v : ℕ) → head (drop i d) ≡ v → (32 ≡ v → ⊥) → (i < length d) × (get_or d i 0 ≡ v)
found_at d i v e apart =
    elim (cases_lt i (length d)) [
      | inl within ↦ (within, sym (ap head (drop_more d i 0 within)) ∙ e)
      | inr past ↦ absurd (apart (sym (ap head (drop_all i d past)) ∙ e))
    ]
