-- Tidy texts, computed: each row a text in a style inside a block, and whether it is tidy there.
use Rattle.yaml_base.proofs.Common.{ℕ, Option, None, Some, codes, Bool, false, true, List, [], ◌∷◌, refl, ◌≡◌, Text, any_style, plain, single_quoted}
use Rattle.yaml_base.proofs.Common.{double_quoted, literal, folded, is_tidy}

-- a text in each of the three flow styles
abbrev in_flow_styles : Option ℕ → Text → List Bool
in_flow_styles column text =
    is_tidy plain false column text ∷ is_tidy single_quoted false column text ∷ is_tidy double_quoted false column text ∷ []

tidy : (in_flow_styles None (codes "a b") ≡ true ∷ true ∷ true ∷ [])
    × (in_flow_styles (Some 2) (codes "a\n\n   b") ≡ true ∷ true ∷ true ∷ [])
    × (in_flow_styles None [] ≡ true ∷ true ∷ true ∷ [])
    × (is_tidy literal false None (codes "|\n a\n\n  b ") ≡ true)
    × (is_tidy folded false (Some 0) (codes ">+\n\n a\n\n") ≡ true)
tidy = (refl, refl, refl, refl, refl)

-- a tab, a line at the column of the block around, one at column 0 of the root, a space before a break, white edges, a line
-- of blanks alone, no style
untidy : (in_flow_styles None (codes "a\tb") ≡ false ∷ false ∷ false ∷ [])
    × (in_flow_styles (Some 2) (codes "a\n  b") ≡ false ∷ false ∷ false ∷ [])
    × (in_flow_styles None (codes "a\nb") ≡ false ∷ false ∷ false ∷ [])
    × (in_flow_styles None (codes "a \n  b") ≡ false ∷ false ∷ false ∷ [])
    × (in_flow_styles None (codes " a") ≡ false ∷ true ∷ true ∷ [])
    × (in_flow_styles None (codes "a\n") ≡ false ∷ true ∷ true ∷ [])
    × (is_tidy literal false None (codes "|\n  \n  a") ≡ false)
    × (is_tidy literal false (Some 2) (codes "|\n  a") ≡ false)
    × (is_tidy any_style false None (codes "a") ≡ false)
untidy = (refl, refl, refl, refl, refl, refl, refl, refl, refl)

-- U+2028 breaks a line, and under the rules of YAML 1.2 it doesn't
separators : (is_tidy plain false None (codes "a\u{2028}b") ≡ false) × (is_tidy plain true None (codes "a\u{2028}b") ≡ true)
separators = (refl, refl)
