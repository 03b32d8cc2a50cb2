-- The bytes of words.
use Rattle.yaml_read.proofs.Common.{ℕ, List, flat_map}

-- the bytes of words
abbrev pub flat : List (List ℕ) → List ℕ
flat words = flat_map (λ word. word) words
