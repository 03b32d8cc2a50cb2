-- Two trees of one shape, each with the numbers of its own graph: the numbers at each place of both, and that they belong together.
use Rattle.yaml_base.proofs.Common.{suc, zero, ℕ, ◌+◌, ◌≤◌, ⊤, Contains, count_by, Option, Bool, cond, false, true, List, [], map, ◌++◌, ◌∷◌, ◌⊎◌, refl, ◌≡◌}
use Rattle.yaml_base.proofs.Common.{inl, inr, ap, subst, sym, ◌∙◌, arith, map-append, Contains-append_left, Contains-append_right, Text, label_at, Graph}
use Rattle.yaml_base.proofs.Common.{children, Shape, no_shapes, Placed, alias_placed, PlacedNodes, node_placed, none_placed, placed_and, number_at, numbers_at}
use Rattle.yaml_base.proofs.Common.{HasShape, HaveShapes, Occurrence, alias_occurrence, node_occurrence, occurrences, occurrences_below, IsReached}
use Rattle.yaml_base.proofs.{Common.child_reached, DocumentsUnfold.count_cons}
use Rattle.yaml_base.specs.graphs.Unfolding.{alias_shape, Shapes, node_shape, shapes_and}

-- ---- trees with two numbers at each place

mutual
  pub data Twin : Type 0 where
    alias_twin : Text → ℕ → ℕ → Twin
    node_twin : Option Text → ℕ → ℕ → Twins → Twin

  pub data Twins : Type 0 where
    none_twins : Twins
    twins_and : Twins → Twin → Twins

-- with the first number alone
abbrev mutual
  pub first_placed : Twin → Placed
  first_placed (alias_twin name number other) = alias_placed name number
  first_placed (node_twin anchor number other below) = node_placed anchor number (firsts_placed below)

  pub firsts_placed : Twins → PlacedNodes
  firsts_placed none_twins = none_placed
  firsts_placed (twins_and before last) = placed_and (firsts_placed before) (first_placed last)

-- with the second alone
abbrev mutual
  pub second_placed : Twin → Placed
  second_placed (alias_twin name number other) = alias_placed name other
  second_placed (node_twin anchor number other below) = node_placed anchor other (seconds_placed below)

  pub seconds_placed : Twins → PlacedNodes
  seconds_placed none_twins = none_placed
  seconds_placed (twins_and before last) = placed_and (seconds_placed before) (second_placed last)

-- the two nodes of a place that isn't an alias have one label, and below it are the children of each
abbrev mutual
  pub TwinFits : Graph → Graph → Twin → Type 0
  TwinFits first second (alias_twin name number other) = ⊤
  TwinFits first second (node_twin anchor number other below) =
      (label_at second other ≡ label_at first number)
      × (numbers_at (firsts_placed below) ≡ children first number)
      × (numbers_at (seconds_placed below) ≡ children second other)
      × TwinsFit first second below

  pub TwinsFit : Graph → Graph → Twins → Type 0
  TwinsFit first second none_twins = ⊤
  TwinsFit first second (twins_and before last) = TwinsFit first second before × TwinFits first second last

-- two trees as one
pub record Joins (first second : Graph) (one other : Placed) : Type 0 where
  pub twin : Twin
  pub is_first : first_placed twin ≡ one
  pub is_second : second_placed twin ≡ other
  pub fits : TwinFits first second twin

record JoinsAll (first second : Graph) (some others : PlacedNodes) : Type 0 where
  twins : Twins
  are_firsts : firsts_placed twins ≡ some
  are_seconds : seconds_placed twins ≡ others
  fit : TwinsFit first second twins

mutual
  pub joined : (first second : Graph) (shape : Shape) (one other : Placed) → HasShape false first one shape → HasShape false second other shape
      → Joins first second one other
  joined first second (alias_shape stated) (alias_placed name number) (alias_placed also again) fits matches =
      record { twin = alias_twin name number again; is_first = refl; is_second = ap (λ (n : Text). alias_placed n again) (fits ∙ sym matches); fits = tt }
  joined first second (alias_shape stated) (node_placed anchor number below) other fits matches = absurd fits
  joined first second (node_shape stated label inside) (alias_placed name number) other fits matches = absurd fits
  joined first second (node_shape stated label inside) (node_placed anchor number below) (node_placed also again lower) fits matches =
      let all = joined_all first second inside below lower fits.3 matches.3 in
      record {
        twin = node_twin anchor number again all.twins;
        is_first = ap (node_placed anchor number) all.are_firsts;
        is_second =
            ap (node_placed anchor again) all.are_seconds
            ∙ ap (λ (a : Option Text). node_placed a again lower) (fits.0 ∙ sym matches.0);
        fits = (
          matches.1 ∙ sym fits.1,
          ap numbers_at all.are_firsts ∙ fits.2,
          ap numbers_at all.are_seconds ∙ matches.2,
          all.fit,
        );
      }
  joined first second _ _ _ fits matches = absurd matches

  joined_all : (first second : Graph) (shapes : Shapes) (some others : PlacedNodes) → HaveShapes false first some shapes
      → HaveShapes false second others shapes → JoinsAll first second some others
  joined_all first second no_shapes none_placed none_placed fit match = record { twins = none_twins; are_firsts = refl; are_seconds = refl; fit = tt }
  joined_all first second no_shapes (placed_and before last) others fit match = absurd fit
  joined_all first second (shapes_and each shape) none_placed others fit match = absurd fit
  joined_all first second (shapes_and each shape) (placed_and before last) (placed_and earlier latter) fit match =
      let all = joined_all first second each before earlier fit.0 match.0 in
      let one = joined first second shape last latter fit.1 match.1 in
      record {
        twins = twins_and all.twins one.twin;
        are_firsts = ap (λ (p : PlacedNodes). placed_and p (first_placed one.twin)) all.are_firsts ∙ ap (placed_and before) one.is_first;
        are_seconds = ap (λ (p : PlacedNodes). placed_and p (second_placed one.twin)) all.are_seconds ∙ ap (placed_and earlier) one.is_second;
        fit = (all.fit, one.fits);
      }
  joined_all first second _ _ _ fit match = absurd match

-- ---- the places of a tree with two numbers

pub data Pair : Type 0 where
  alias_pair : Text → ℕ → ℕ → Pair
  node_pair : Option Text → ℕ → ℕ → Pair

abbrev mutual
  pub pairs : Twin → List Pair
  pairs (alias_twin name number other) = alias_pair name number other ∷ []
  pairs (node_twin anchor number other below) = node_pair anchor number other ∷ pairs_below below

  pub pairs_below : Twins → List Pair
  pairs_below none_twins = []
  pairs_below (twins_and before last) = pairs_below before ++ pairs last

abbrev pub first_number : Pair → ℕ
first_number (alias_pair name number other) = number
first_number (node_pair anchor number other) = number

abbrev pub second_number : Pair → ℕ
second_number (alias_pair name number other) = other
second_number (node_pair anchor number other) = other

abbrev pub first_of : Pair → Occurrence
first_of (alias_pair name number other) = alias_occurrence name number
first_of (node_pair anchor number other) = node_occurrence anchor number

abbrev pub second_of : Pair → Occurrence
second_of (alias_pair name number other) = alias_occurrence name other
second_of (node_pair anchor number other) = node_occurrence anchor other

-- they are the occurrences of both trees
mutual
  pub first_occurrences : (twin : Twin) → occurrences (first_placed twin) ≡ map first_of (pairs twin)
  first_occurrences (alias_twin name number other) = refl
  first_occurrences (node_twin anchor number other below) = ap (λ rest. node_occurrence anchor number ∷ rest) (first_occurrences_below below)

  first_occurrences_below : (twins : Twins) → occurrences_below (firsts_placed twins) ≡ map first_of (pairs_below twins)
  first_occurrences_below none_twins = refl
  first_occurrences_below (twins_and before last) = simp (first_occurrences_below before, first_occurrences last, map-append)

mutual
  pub second_occurrences : (twin : Twin) → occurrences (second_placed twin) ≡ map second_of (pairs twin)
  second_occurrences (alias_twin name number other) = refl
  second_occurrences (node_twin anchor number other below) = ap (λ rest. node_occurrence anchor other ∷ rest) (second_occurrences_below below)

  second_occurrences_below : (twins : Twins) → occurrences_below (seconds_placed twins) ≡ map second_of (pairs_below twins)
  second_occurrences_below none_twins = refl
  second_occurrences_below (twins_and before last) = simp (second_occurrences_below before, second_occurrences last, map-append)

-- ---- one of a list

abbrev pub IsIn : {X : Type 0} → X → List X → Type 0
IsIn x [] = ⊥
IsIn x (y ∷ ys) = (y ≡ x) ⊎ IsIn x ys

pub in_left : {X : Type 0} (x : X) (xs ys : List X) → IsIn x xs → IsIn x (xs ++ ys)
in_left x [] ys within = absurd within
in_left x (y ∷ xs) ys (inl is) = inl is
in_left x (y ∷ xs) ys (inr later) = inr (in_left x xs ys later)

pub in_right : {X : Type 0} (x : X) (xs ys : List X) → IsIn x ys → IsIn x (xs ++ ys)
in_right x [] ys within = within
in_right x (y ∷ xs) ys within = inr (in_right x xs ys within)

pub in_either : {X : Type 0} (x : X) (xs ys : List X) → IsIn x (xs ++ ys) → IsIn x xs ⊎ IsIn x ys
in_either x [] ys within = inr within
in_either x (y ∷ xs) ys (inl is) = inl (inl is)
in_either x (y ∷ xs) ys (inr later) =
    elim (in_either x xs ys later) as (λ _. IsIn x (y ∷ xs) ⊎ IsIn x ys) [ inl within ↦ inl (inr within) | inr within ↦ inr within ]

pub contained_in : {X : Type 0} (x : X) (xs : List X) → Contains xs x → IsIn x xs
contained_in x [] (k, within, is) = absurd (omega (arith, within))
contained_in x (y ∷ xs) (zero, within, is) = inl is
contained_in x (y ∷ xs) (suc k, within, is) = inr (contained_in x xs (k, omega (arith, within), is))

pub in_map : {X Y : Type 0} (f : X → Y) (x : X) (xs : List X) → IsIn x xs → IsIn (f x) (map f xs)
in_map f x [] within = absurd within
in_map f x (y ∷ xs) (inl is) = inl (ap f is)
in_map f x (y ∷ xs) (inr later) = inr (in_map f x xs later)

-- ---- the number of each place is reached

abbrev pub number_in : Occurrence → ℕ
number_in (alias_occurrence name number) = number
number_in (node_occurrence anchor number) = number

mutual
  pub occurrence_reached : (graph : Graph) (shape : Shape) (placed : Placed) → HasShape false graph placed shape → IsReached graph (number_at placed)
      → (found : Occurrence) → IsIn found (occurrences placed) → IsReached graph (number_in found)
  occurrence_reached graph shape (alias_placed name number) fits reached found (inl is) = subst (λ o. IsReached graph (number_in o)) is reached
  occurrence_reached graph shape (alias_placed name number) fits reached found (inr none) = absurd none
  occurrence_reached graph (alias_shape stated) (node_placed anchor number below) fits reached found within = absurd fits
  occurrence_reached graph (node_shape stated label inside) (node_placed anchor number below) fits reached found (inl is) =
      subst (λ o. IsReached graph (number_in o)) is reached
  occurrence_reached graph (node_shape stated label inside) (node_placed anchor number below) fits reached found (inr later) =
      occurrence_below_reached graph inside below fits.3
      (λ child within. child_reached reached (subst (λ (numbers : List ℕ). Contains numbers child) fits.2 within)) found later

  occurrence_below_reached : (graph : Graph) (shapes : Shapes) (below : PlacedNodes) → HaveShapes false graph below shapes
      → ((child : ℕ) → Contains (numbers_at below) child → IsReached graph child)
      → (found : Occurrence) → IsIn found (occurrences_below below) → IsReached graph (number_in found)
  occurrence_below_reached graph each none_placed fit reached found within = absurd within
  occurrence_below_reached graph no_shapes (placed_and before last) fit reached found within = absurd fit
  occurrence_below_reached graph (shapes_and each shape) (placed_and before last) fit reached found within =
      elim (in_either found (occurrences_below before) (occurrences last) within) as (λ _. IsReached graph (number_in found)) [
        | inl earlier ↦ occurrence_below_reached graph each before fit.0
            (λ child one. reached child (Contains-append_left (numbers_at before) (number_at last ∷ []) child one)) found earlier
        | inr now ↦ occurrence_reached graph shape last fit.1
            (reached (number_at last) (Contains-append_right (numbers_at before) (number_at last ∷ []) (number_at last) (0, omega arith, refl))) found now
      ]

-- ---- a test that one element meets meets no other

some_counted : {X : Type 0} (test : X → Bool) (x : X) (xs : List X) → IsIn x xs → test x ≡ true → 1 ≤ count_by test xs
some_counted test x [] within meets = absurd within
some_counted test x (y ∷ xs) (inl is) meets =
    omega (arith, count_cons test y xs, ap {B = ℕ} (λ (b : Bool). cond b 1 0) (ap test is ∙ meets))
some_counted test x (y ∷ xs) (inr later) meets = omega (arith, count_cons test y xs, some_counted test x xs later meets)

pub only_one : {X : Type 0} (test : X → Bool) (x y : X) (xs : List X) → IsIn x xs → IsIn y xs → test x ≡ true → test y ≡ true → count_by test xs ≡ 1 → x ≡ y
only_one test x y [] within also meets meets_too once = absurd within
only_one test x y (z ∷ xs) (inl is) (inl same) meets meets_too once = sym is ∙ same
only_one test x y (z ∷ xs) (inl is) (inr later) meets meets_too once =
    absurd (omega (arith, once, count_cons test z xs, some_counted test y xs later meets_too, ap {B = ℕ} (λ (b : Bool). cond b 1 0) (ap test is ∙ meets)))
only_one test x y (z ∷ xs) (inr later) (inl same) meets meets_too once =
    absurd (omega (arith, once, count_cons test z xs, some_counted test x xs later meets, ap {B = ℕ} (λ (b : Bool). cond b 1 0) (ap test same ∙ meets_too)))
only_one test x y (z ∷ xs) (inr later) (inr after) meets meets_too once =
    only_one test x y xs later after meets meets_too
    (omega (arith, once, count_cons test z xs, some_counted test x xs later meets))

pub count_map : {X Y : Type 0} (f : X → Y) (test : Y → Bool) (xs : List X) → count_by test (map f xs) ≡ count_by (λ x. test (f x)) xs
count_map f test [] = refl
count_map f test (x ∷ xs) =
    count_cons test (f x) (map f xs) ∙ ap (λ (n : ℕ). cond (test (f x)) 1 0 + n) (count_map f test xs) ∙ sym (count_cons (λ y. test (f y)) x xs)

-- a counted number is there
pub counted_in : {X : Type 0} (test : X → Bool) (xs : List X) → 1 ≤ count_by test xs → (x : X) × IsIn x xs × (test x ≡ true)
counted_in test [] some = absurd (omega (arith, some))
counted_in test (x ∷ xs) some =
    (elim (test x) as (λ meets. test x ≡ meets → (y : _) × IsIn y (x ∷ xs) × (test y ≡ true)) [
      | true ↦ λ is. (x, inl refl, is)
      | false ↦ λ is.
          let later = counted_in test xs (omega (arith, some, count_cons test x xs, ap {B = ℕ} (λ (b : Bool). cond b 1 0) is)) in
          (later.0, inr later.1, later.2)
    ]) refl
