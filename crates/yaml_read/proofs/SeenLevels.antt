-- Levels of a program as they are seen.
use Rattle.yaml_read.proofs.Common.{ℕ, ◌+◌, suc, List, [], ◌∷◌, ◌++◌, ◌≡◌, ap, ◌∙◌, arith, length, length-append, OpenLevel, seen_level, seen_levels, Level}
use Rattle.yaml_read.proofs.Common.{level_more}
use Rattle.yaml_value.specs.OpenLevels.{onto}

onto_length : {A : Type 0} (outer : List OpenLevel) (levels : List (Level A)) → length (onto outer levels) ≡ length outer + length levels
onto_length outer [] = omega arith
onto_length outer (first ∷ levels) = grind (arith, seen_level, length, suc, onto_length (seen_level first ∷ outer) levels)

pub levels_length : {A : Type 0} (levels : List (Level A)) → length (seen_levels levels) ≡ length levels
levels_length levels = grind (arith, onto_length, length)

-- a level was pushed
pub pushed_on : {A : Type 0} (level : Level A) (old new : List (Level A)) → new ≡ old ++ level ∷ []
    → (seen_levels new ≡ seen_level level ∷ seen_levels old) × (length new ≡ suc (length old))
pushed_on level old new items = (level_more old new level items, ap length items ∙ length-append old (level ∷ []) ∙ one (length old))
  where
    one : (n : ℕ) → n + 1 ≡ suc n
    one n = omega arith
