-- Bytes that are UTF-8, and other bytes, as texts.
use Rattle.yaml_base.proofs.Common.{ℕ, if◌then◌else◌, None, Some, Bool, false, true, List, refl, ◌≡◌, ap, sym, chars}
use Rattle.std.{proofs.lemmas.Str.IsUtf8-from_is_utf8, proofs.lemmas.Str.is_utf8-from_IsUtf8, specs.Str.IsUtf8, specs.Str.is_utf8}
use Rattle.yaml_c.specs.Arena.{utf8_text}

pub text_of_utf8 : (bytes : List ℕ) → IsUtf8 bytes → Some (chars bytes) ≡ utf8_text bytes
text_of_utf8 bytes is = sym (ap (λ (b : Bool). if b then Some (chars bytes) else None) (is_utf8-from_IsUtf8 bytes is))

refuted : (bytes : List ℕ) (answer : Bool) → (answer ≡ true → IsUtf8 bytes) → (IsUtf8 bytes → ⊥) → answer ≡ false
refuted bytes true says is_not = absurd (is_not (says refl))
refuted bytes false says is_not = refl

pub no_text : (bytes : List ℕ) → (IsUtf8 bytes → ⊥) → None ≡ utf8_text bytes
no_text bytes is_not =
    sym (ap (λ (b : Bool). if b then Some (chars bytes) else None) (refuted bytes (is_utf8 bytes) (IsUtf8-from_is_utf8 bytes) is_not))
