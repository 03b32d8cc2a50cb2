-- A text that is cut at the first of a character is cut at each of them, piece by piece.
use Rattle.yaml_tool.proofs.Common.{ℕ, ◌==◌, None, Bool, false, true, ◌||◌, List, [], ◌++◌, ◌∷◌, refl, ◌≡◌, ap, ◌∙◌, arith, nat_tests, onto_first, Text}
use Rattle.yaml_tool.proofs.Common.{version_of, IsFree, IsCut, cut_at}
use Rattle.yaml_base.proofs.Common.{cond}

-- a character that isn't the delimiter, and a rest without it
pub free_parts : (is_here is_later : Bool) → (is_here || is_later) ≡ false → (is_here ≡ false) × (is_later ≡ false)
free_parts true is_later free = cc
free_parts false is_later free = (refl, free)

one_cut : ℕ → List Text → Bool → List Text
one_cut c pieces is = cond is ([] ∷ pieces) (onto_first c pieces)

cut_prefix : (delimiter : ℕ) (prefix : Text) (back : List Text) (text : Text) → IsFree delimiter prefix → cut_at delimiter text ≡ [] ∷ back
    → cut_at delimiter (prefix ++ text) ≡ prefix ∷ back
unfolding one_cut
cut_prefix delimiter [] back text free is = is
cut_prefix delimiter (c ∷ prefix) back text free is =
    grind (arith, free_parts, one_cut, cut_at, onto_first, cut_prefix delimiter prefix back text (free_parts (c == delimiter) _ free).1 is)

at_delimiter : (delimiter : ℕ) → (delimiter == delimiter) ≡ true
at_delimiter delimiter = grind (arith, nat_tests)

-- without the character there is one piece
pub cut_free : (delimiter : ℕ) (text : Text) → IsFree delimiter text → cut_at delimiter text ≡ text ∷ []
unfolding one_cut
cut_free delimiter [] free = refl
cut_free delimiter (c ∷ rest) free = grind (arith, free_parts, one_cut, cut_at, onto_first, cut_free delimiter rest (free_parts (c == delimiter) _ free).1)

-- the prefix is the first piece, and the back gives the others
pub cut_cut : (delimiter : ℕ) (text prefix back : Text) → IsCut delimiter text prefix back → cut_at delimiter text ≡ prefix ∷ cut_at delimiter back
unfolding one_cut
cut_cut delimiter text prefix back cut =
    ap (cut_at delimiter) cut.0 ∙ cut_prefix delimiter prefix (cut_at delimiter back) (delimiter ∷ back) cut.1
    (ap (one_cut delimiter (cut_at delimiter back)) (at_delimiter delimiter))

three : (major minor : Text) (first : Bool) (c : ℕ) (pieces : List Text) → version_of (major ∷ minor ∷ one_cut c pieces first) ≡ None
unfolding one_cut
three major minor first c pieces = grind arith

-- more than two pieces are no version
pub no_version : (delimiter : ℕ) (major minor back : Text) → version_of (major ∷ minor ∷ cut_at delimiter back) ≡ None
unfolding one_cut
no_version delimiter major minor [] = refl
no_version delimiter major minor (c ∷ rest) = three major minor (c == delimiter) c (cut_at delimiter rest)
