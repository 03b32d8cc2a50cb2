-- The next line that isn't empty, character by character.
use Rattle.yaml_scalar.proofs.Common.{ℕ, false, not, true, List, ◌∷◌, refl, ◌≡◌, Text, is_space, is_break, next_line_unindented, Part}
use Rattle.yaml_scalar.proofs.Common.{begun, parts, arith, nat_tests}

even-begun : (c : ℕ) (ps : List Part) → next_line_unindented (begun c ps) ≡ not (is_space c)
even-begun c ps = grind (arith, nat_tests)

pub even-line : (c : ℕ) (rest : Text) → is_break c ≡ false → next_line_unindented (parts (c ∷ rest)) ≡ not (is_space c)
even-line c rest e = rw e (even-begun c (parts rest))

pub even-break : (c : ℕ) (rest : Text) → is_break c ≡ true → next_line_unindented (parts (c ∷ rest)) ≡ next_line_unindented (parts rest)
even-break c rest e = rw e refl
