-- A file that isn't the YAML that would be written to it.
use Rattle.std.proofs.Common.{ℕ, Option, None, Some, List, ◌≡◌, subst, sym, ◌∙◌}

abbrev HasNothing : Option (List ℕ) → Type 0
HasNothing None = Unit {0}
HasNothing (Some bytes) = ⊥

pub nothing_there : (known : Option (List ℕ)) (bytes : List ℕ) → known ≡ None → known ≡ Some bytes → ⊥
nothing_there known bytes none some = subst HasNothing (sym none ∙ some) tt

pub another_there : (known : Option (List ℕ)) (yaml there bytes : List ℕ) → (yaml ≡ there → ⊥) → yaml ≡ bytes
    → ((all : List ℕ) → known ≡ Some all → there ≡ all) → known ≡ Some bytes → ⊥
another_there known yaml there bytes other same read is = other (same ∙ sym (read bytes is))
