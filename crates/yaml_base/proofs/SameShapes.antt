-- Graphs that one shape unfolds are isomorphic.
use Rattle.yaml_base.proofs.Common.{nat_tests}
use Rattle.yaml_base.proofs.Common.{ℕ, ◌==◌, count_by, Option, Some, Bool, cond, false, true, List, [], map, ◌++◌, ◌∷◌, refl, ◌≡◌, eq-eqb, eqb-true}
use Rattle.yaml_base.proofs.Common.{append_assoc, inl, inr, ap, subst, sym, ◌∙◌, arith, map-append, bytes_eq-Decides, Text, label_at, Isomorphic, Graph}
use Rattle.yaml_base.proofs.Common.{children, Shape, number_at, numbers_at, Occurrence, alias_occurrence, node_occurrence, occurrences, has_anchor}
use Rattle.yaml_base.proofs.Twins.{Twin, alias_twin, Twins, node_twin, none_twins, twins_and, first_placed, firsts_placed, second_placed, seconds_placed}
use Rattle.yaml_base.proofs.Twins.{TwinFits, TwinsFit, joined, Pair, alias_pair, node_pair, pairs, pairs_below, first_number, second_number, first_of}
use Rattle.yaml_base.proofs.Twins.{second_of, first_occurrences, second_occurrences, IsIn, in_left, in_right, in_either, contained_in, in_map, number_in}
use Rattle.yaml_base.{proofs.Twins.occurrence_reached, proofs.Twins.only_one, proofs.Twins.count_map, proofs.Twins.counted_in, specs.graphs.Unfolding.Unfolds}
use Rattle.yaml_base.proofs.Common.{is_occurrence_of, NameTheirNodes, IsReached, first_reached}

-- ---- partners

-- the second number of the node whose first number this is
abbrev pub partner_in : List Pair → ℕ → ℕ
partner_in [] number = 0
partner_in (alias_pair name one other ∷ rest) number = partner_in rest number
partner_in (node_pair anchor one other ∷ rest) number = cond (number == one) other (partner_in rest number)

here_or_later : (b : Bool) (anchor given : Option Text) (one other number another rest : ℕ) (all : List Pair) → (number == one) ≡ b
    → IsIn (node_pair given number another) (node_pair anchor one other ∷ all)
    → (IsIn (node_pair given number another) all → (a : Option Text) × IsIn (node_pair a number rest) all)
    → (a : Option Text) × IsIn (node_pair a number (cond b other rest)) (node_pair anchor one other ∷ all)
here_or_later true anchor given one other number another rest all is within later =
    (anchor, inl (ap (λ (n : ℕ). node_pair anchor n other) (sym (eqb-true number one is))))
here_or_later false anchor given one other number another rest all is (inl same) later = grind (arith, eq-eqb)
here_or_later false anchor given one other number another rest all is (inr within) later = grind (arith)

partner_there : (all : List Pair) (anchor : Option Text) (number other : ℕ) → IsIn (node_pair anchor number other) all
    → (a : Option Text) × IsIn (node_pair a number (partner_in all number)) all
partner_there [] anchor number other within = absurd within
partner_there (alias_pair name one another ∷ all) anchor number other (inl is) = cc
partner_there (alias_pair name one another ∷ all) anchor number other (inr within) = grind (arith, partner_there all anchor number other within)
partner_there (node_pair given one another ∷ all) anchor number other within =
    here_or_later (number == one) given anchor one another number other (partner_in all number) all refl within (partner_there all anchor number other)

-- if a node has one place
partner_is : (all : List Pair) (anchor : Option Text) (number other : ℕ) → IsIn (node_pair anchor number other) all
    → count_by (is_occurrence_of number) (map first_of all) ≡ 1 → partner_in all number ≡ other
partner_is all anchor number other within once = grind (arith, partner_there, only_one, eq-eqb, count_map)

-- the pairs, the other way round
abbrev turned : Pair → Pair
turned (alias_pair name one other) = alias_pair name other one
turned (node_pair anchor one other) = node_pair anchor other one

turned_firsts : (all : List Pair) → map first_of (map turned all) ≡ map second_of all
turned_firsts [] = refl
turned_firsts (alias_pair name one other ∷ all) = ap (λ rest. alias_occurrence name other ∷ rest) (turned_firsts all)
turned_firsts (node_pair anchor one other ∷ all) = ap (λ rest. node_occurrence anchor other ∷ rest) (turned_firsts all)

back_is : (all : List Pair) (anchor : Option Text) (number other : ℕ) → IsIn (node_pair anchor number other) all
    → count_by (is_occurrence_of other) (map second_of all) ≡ 1 → partner_in (map turned all) other ≡ number
back_is all anchor number other within once = grind (arith, partner_is, in_map, turned_firsts)

-- ---- aliases

-- an alias's name is carried once, by a node of its number
named_at : (all before rest : List Occurrence) (name : Text) (number : ℕ) → NameTheirNodes all before rest → IsIn (alias_occurrence name number) rest
    → (count_by (has_anchor name) all ≡ 1) × IsIn (node_occurrence (Some name) number) (before ++ rest)
named_at all before [] name number named within = absurd within
named_at all before (first ∷ rest) name number named (inl is) = grind (arith, in_left, contained_in)
named_at all before (first ∷ rest) name number named (inr later) =
    grind (arith, nat_tests, append_assoc, named_at all (before ++ first ∷ []) rest name number named.1 later)

of_first : (all : List Pair) (anchor : Option Text) (number : ℕ) → IsIn (node_occurrence anchor number) (map first_of all)
    → (other : ℕ) × IsIn (node_pair anchor number other) all
of_first [] anchor number within = absurd within
of_first (alias_pair name one other ∷ all) anchor number (inl is) = cc
of_first (node_pair given one other ∷ all) anchor number (inl is) = (other, inl cc)
of_first (alias_pair name one other ∷ all) anchor number (inr later) = let found = of_first all anchor number later in (found.0, inr found.1)
of_first (node_pair given one other ∷ all) anchor number (inr later) = let found = of_first all anchor number later in (found.0, inr found.1)

of_second : (all : List Pair) (anchor : Option Text) (other : ℕ) → IsIn (node_occurrence anchor other) (map second_of all)
    → (number : ℕ) × IsIn (node_pair anchor number other) all
of_second [] anchor other within = absurd within
of_second (alias_pair name one another ∷ all) anchor other (inl is) = cc
of_second (node_pair given one another ∷ all) anchor other (inl is) = (one, inl cc)
of_second (alias_pair name one another ∷ all) anchor other (inr later) = let found = of_second all anchor other later in (found.0, inr found.1)
of_second (node_pair given one another ∷ all) anchor other (inr later) = let found = of_second all anchor other later in (found.0, inr found.1)

-- so the numbers of an alias are partners, if those of the node are
alias_matches : (all : List Pair) (name : Text) (number other : ℕ) → IsIn (alias_pair name number other) all
    → NameTheirNodes (map first_of all) [] (map first_of all) → NameTheirNodes (map second_of all) [] (map second_of all)
    → count_by (is_occurrence_of number) (map first_of all) ≡ 1 → partner_in all number ≡ other
alias_matches all name number other within named also once =
    let one = named_at (map first_of all) [] (map first_of all) name number named (in_map first_of (alias_pair name number other) all within) in
    let two = named_at (map second_of all) [] (map second_of all) name other also (in_map second_of (alias_pair name number other) all within) in
    let node = of_first all (Some name) number one.1 in
    let again = of_second all (Some name) other two.1 in
    let carried = (bytes_eq-Decides name name).1 refl in
    partner_is all (Some name) number node.0 node.1 once
    ∙ ap second_number
    (only_one (λ pair. has_anchor name (first_of pair)) (node_pair (Some name) number node.0) (node_pair (Some name) again.0 other) all node.1 again.1
    carried carried (sym (count_map first_of (has_anchor name) all) ∙ one.0))

-- ---- the parts of a node's partner

-- the numbers at each place are partners
abbrev Match : (ℕ → ℕ) → List Pair → Type 0
Match partner all = (pair : Pair) → IsIn pair all → partner (first_number pair) ≡ second_number pair

root_matches : (partner : ℕ → ℕ) (twin : Twin) → Match partner (pairs twin) → partner (number_at (first_placed twin)) ≡ number_at (second_placed twin)
root_matches partner (alias_twin name number other) match = match (alias_pair name number other) (inl refl)
root_matches partner (node_twin anchor number other below) match = match (node_pair anchor number other) (inl refl)

below_match : (partner : ℕ → ℕ) (twins : Twins) → Match partner (pairs_below twins)
    → numbers_at (seconds_placed twins) ≡ map partner (numbers_at (firsts_placed twins))
below_match partner none_twins match = refl
below_match partner (twins_and before last) match =
    ap (λ (numbers : List ℕ). numbers ++ number_at (second_placed last) ∷ [])
    (below_match partner before (λ pair within. match pair (in_left pair (pairs_below before) (pairs last) within)))
    ∙ ap (λ (n : ℕ). map partner (numbers_at (firsts_placed before)) ++ n ∷ [])
    (sym (root_matches partner last (λ pair within. match pair (in_right pair (pairs_below before) (pairs last) within))))
    ∙ sym (map-append partner (numbers_at (firsts_placed before)) (number_at (first_placed last) ∷ []))

-- the label, and the children's partners
record IsKept (first second : Graph) (partner : ℕ → ℕ) (number other : ℕ) : Type 0 where
  label : label_at second other ≡ label_at first number
  children_kept : children second other ≡ map partner (children first number)

mutual
  node_kept : (first second : Graph) (partner : ℕ → ℕ) (twin : Twin) → TwinFits first second twin → Match partner (pairs twin)
      → (anchor : Option Text) (number other : ℕ) → IsIn (node_pair anchor number other) (pairs twin) → IsKept first second partner number other
  node_kept first second partner (alias_twin name one another) fits match anchor number other (inl is) = cc
  node_kept first second partner (alias_twin name one another) fits match anchor number other (inr none) = absurd none
  node_kept first second partner (node_twin given one another below) fits match anchor number other (inl is) = grind (arith, below_match)
  node_kept first second partner (node_twin given one another below) fits match anchor number other (inr later) =
      nodes_kept first second partner below fits.3 (λ pair within. match pair (inr within)) anchor number other later

  nodes_kept : (first second : Graph) (partner : ℕ → ℕ) (twins : Twins) → TwinsFit first second twins → Match partner (pairs_below twins)
      → (anchor : Option Text) (number other : ℕ) → IsIn (node_pair anchor number other) (pairs_below twins) → IsKept first second partner number other
  nodes_kept first second partner none_twins fit match anchor number other within = absurd within
  nodes_kept first second partner (twins_and before last) fit match anchor number other within =
      elim (in_either (node_pair anchor number other) (pairs_below before) (pairs last) within) as (λ _. IsKept first second partner number other) [
        | inl earlier ↦ nodes_kept first second partner before fit.0 (λ pair there. match pair (in_left pair (pairs_below before) (pairs last) there))
            anchor number other earlier
        | inr now ↦ node_kept first second partner last fit.1 (λ pair there. match pair (in_right pair (pairs_below before) (pairs last) there))
            anchor number other now
      ]

-- ---- a node that is reached has its place

record HasPair (all : List Pair) (first_meets : ℕ) : Type 0 where
  anchor : Option Text
  other : ℕ
  within : IsIn (node_pair anchor first_meets other) all

node_of : (all : List Pair) (number : ℕ) → count_by (is_occurrence_of number) (map first_of all) ≡ 1 → HasPair all number
node_of all number once = grind (arith, count_map, counted_in, eqb-true)

record HasBack (all : List Pair) (second_is : ℕ) : Type 0 where
  anchor : Option Text
  number : ℕ
  within : IsIn (node_pair anchor number second_is) all

back_of : (all : List Pair) (other : ℕ) → count_by (is_occurrence_of other) (map second_of all) ≡ 1 → HasBack all other
back_of all other once = grind (arith, count_map, counted_in, eqb-true)

-- ---- the law

first_numbers : (pair : Pair) → number_in (first_of pair) ≡ first_number pair
first_numbers pair = grind (arith)

second_numbers : (pair : Pair) → number_in (second_of pair) ≡ second_number pair
second_numbers pair = grind (arith)

-- the facts known of a tree with the numbers of both graphs
record Both (first second : Graph) (twin : Twin) : Type 0 where
  fits : TwinFits first second twin
  root : number_at (first_placed twin) ≡ 1
  also_root : number_at (second_placed twin) ≡ 1
  named : NameTheirNodes (map first_of (pairs twin)) [] (map first_of (pairs twin))
  also_named : NameTheirNodes (map second_of (pairs twin)) [] (map second_of (pairs twin))
  once : (number : ℕ) → IsReached first number → count_by (is_occurrence_of number) (map first_of (pairs twin)) ≡ 1
  also_once : (number : ℕ) → IsReached second number → count_by (is_occurrence_of number) (map second_of (pairs twin)) ≡ 1
  reached : (pair : Pair) → IsIn pair (pairs twin) → IsReached first (first_number pair)
  also_reached : (pair : Pair) → IsIn pair (pairs twin) → IsReached second (second_number pair)

all_match : (first second : Graph) (twin : Twin) → Both first second twin → Match (partner_in (pairs twin)) (pairs twin)
all_match first second twin both (alias_pair name number other) within =
    alias_matches (pairs twin) name number other within both.named both.also_named (both.once number (both.reached (alias_pair name number other) within))
all_match first second twin both (node_pair anchor number other) within =
    partner_is (pairs twin) anchor number other within (both.once number (both.reached (node_pair anchor number other) within))

-- the partner of a node that is reached
partner_of : (first second : Graph) (twin : Twin) → Both first second twin → (number : ℕ) → IsReached first number
    → (anchor : Option Text) × IsIn (node_pair anchor number (partner_in (pairs twin) number)) (pairs twin)
partner_of first second twin both number reached =
    let once = both.once number reached in
    let place = node_of (pairs twin) number once in (
      place.anchor,
      subst (λ (n : ℕ). IsIn (node_pair place.anchor number n) (pairs twin))
          (sym (partner_is (pairs twin) place.anchor number place.other place.within once)) place.within,
    )

both_isomorphic : (first second : Graph) (twin : Twin) → Both first second twin → Isomorphic first second
both_isomorphic first second twin both =
    let all = pairs twin in
    let match = all_match first second twin both in
    let kept = λ (number : ℕ) (reached : IsReached first number).
    let place = partner_of first second twin both number reached in
    node_kept first second (partner_in all) twin both.fits match place.0 number (partner_in all number) place.1 in
    record {
      partner = partner_in all;
      back = partner_in (map turned all);
      root = ap (partner_in all) (sym both.root) ∙ root_matches (partner_in all) twin match ∙ both.also_root;
      labels = λ number reached. (kept number reached).label;
      kept = λ number reached. (kept number reached).children_kept;
      one_to_one = λ number reached.
          let place = partner_of first second twin both number reached in
          back_is all place.0 number (partner_in all number) place.1
          (both.also_once (partner_in all number) (both.also_reached (node_pair place.0 number (partner_in all number)) place.1));
      onto = λ number reached.
          let place = back_of all number (both.also_once number reached) in
          ap (partner_in all) (back_is all place.anchor place.number number place.within (both.also_once number reached))
          ∙ match (node_pair place.anchor place.number number) place.within;
    }

-- graphs that one shape unfolds
pub same_shape : (first second : Graph) (shape : Shape) → Unfolds false first shape → Unfolds false second shape → Isomorphic first second
same_shape first second shape one two =
    let join = joined first second shape one.placed two.placed one.fits two.fits in
    let at : occurrences one.placed ≡ map first_of (pairs join.twin) = ap occurrences (sym join.is_first) ∙ first_occurrences join.twin in
    let also : occurrences two.placed ≡ map second_of (pairs join.twin) = ap occurrences (sym join.is_second) ∙ second_occurrences join.twin in
    both_isomorphic first second join.twin
    (record {
      fits = join.fits;
      root = ap number_at join.is_first ∙ one.root;
      also_root = ap number_at join.is_second ∙ two.root;
      named = subst (λ (all : List Occurrence). NameTheirNodes all [] all) at one.named;
      also_named = subst (λ (all : List Occurrence). NameTheirNodes all [] all) also two.named;
      once = λ number reached. ap (count_by (is_occurrence_of number)) (sym at) ∙ one.once number reached;
      also_once = λ number reached. ap (count_by (is_occurrence_of number)) (sym also) ∙ two.once number reached;
      reached = λ pair within.
          subst (λ (n : ℕ). IsReached first n) (first_numbers pair)
          (occurrence_reached first shape one.placed one.fits (subst (λ (n : ℕ). IsReached first n) (sym one.root) first_reached) (first_of pair)
          (subst (λ all. IsIn (first_of pair) all) (sym at) (in_map first_of pair (pairs join.twin) within)));
      also_reached = λ pair within.
          subst (λ (n : ℕ). IsReached second n) (second_numbers pair)
          (occurrence_reached second shape two.placed two.fits (subst (λ (n : ℕ). IsReached second n) (sym two.root) first_reached) (second_of pair)
          (subst (λ all. IsIn (second_of pair) all) (sym also) (in_map second_of pair (pairs join.twin) within)));
    })
