-- The numbers of a list, each at its first place; the names of shared nodes, and that they differ.
use Rattle.yaml_base.proofs.Common.{suc, zero, ℕ, ◌+◌, ◌/◌, ◌<◌, ◌==◌, option_map, Option, None, Some, nat_lt, length, replicate}
use Rattle.yaml_base.proofs.Common.{slice_index_or as get_or, Bool, cond, false, not, true, ◌||◌, List, [], ◌++◌, ◌∷◌, refl, ◌≡◌, eqb-true, ap, sym, ◌∙◌}
use Rattle.yaml_base.proofs.Common.{arith, nat_tests, digit_value, digit_glyph, digits_onto, filter, filter_map, list_any, position, position_or_len, Text}
use Rattle.yaml_base.proofs.Common.{Step, node_met_again, first_of_each, shared_nodes, numbered_name, anchor_of}
use Rattle.std.{proofs.lemmas.List.Quantifiers.position-Some, proofs.lemmas.Str.digit_value_digit, specs.Str.Parse.digits_value_after}
use Rattle.yaml_base.specs.graphs.Meetings.{decimal_digits}

-- a list has a number
abbrev pub has : ℕ → List ℕ → Bool
has number xs = list_any (λ other. other == number) xs

one_without : (b : Bool) (number y : ℕ) (ys : List ℕ) → (b ≡ true → (y == number) ≡ false)
    → has number (cond (not b) (y ∷ ys) ys) ≡ (y == number || has number ys)
one_without false number y ys h = refl
one_without true number y ys h = ap (λ (t : Bool). t || has number ys) (sym (h refl))

-- without x, a list has the numbers that it had besides x
has_without : (number x : ℕ) (xs : List ℕ) → (x == number) ≡ false → has number (filter (λ other. not (other == x)) xs) ≡ has number xs
has_without number x [] differs = refl
has_without number x (y ∷ xs) differs = grind (arith, one_without, has_without number x xs differs)

either_same : (b a c : Bool) → (b ≡ false → a ≡ c) → (b || a) ≡ (b || c)
either_same true a c h = refl
either_same false a c h = h refl

-- the first of each number are the same numbers
pub has_first : (number : ℕ) (xs : List ℕ) → has number (first_of_each xs) ≡ has number xs
has_first number [] = refl
has_first number (x ∷ xs) = grind (arith, either_same, has_without, has_first number xs)

-- a list has a number exactly if the number's first place is before the end
one_position : (b a : Bool) (k l : ℕ) → a ≡ nat_lt k l → (b || a) ≡ nat_lt (cond (not b) (1 + k) 0) (suc l)
one_position true a k l is = grind (arith, nat_tests)
one_position false a k l is = is ∙ grind (arith, nat_tests)

pub has_position : (number : ℕ) (xs : List ℕ) → has number xs ≡ nat_lt (position_or_len (λ other. other == number) xs) (length xs)
has_position number [] = refl
has_position number (x ∷ xs) = one_position (x == number) (has number xs) (position_or_len (λ other. other == number) xs) (length xs) (has_position number xs)

-- ---- a name tells its number

-- a digit's value
value_of_digit : (digit : ℕ) → digit < 10 → digit_value (digit_glyph false digit) ≡ digit
value_of_digit digit small = grind (arith, digit_value_digit)

-- digits that were written tell their number, before those that follow
digits_value : (room number : ℕ) (rest : List ℕ) → number < room
    → digits_value_after 10 0 (digits_onto room 10 false number rest) ≡ digits_value_after 10 number rest
digits_value zero number rest small = absurd (omega (arith, small))
digits_value (suc room) number rest small = grind (arith, nat_tests, value_of_digit, eqb-true, digits_value room (number / 10))

-- leading zeros don't count
zeros_value : (count : ℕ) (digits : List ℕ) → digits_value_after 10 0 (replicate count 0x30 ++ digits) ≡ digits_value_after 10 0 digits
zeros_value zero digits = refl
zeros_value (suc count) digits = zeros_value count digits

-- the text after the first two characters
behind_two : Text → Text
behind_two (a ∷ b ∷ rest) = rest
behind_two _ = []

name_value : (number : ℕ) → digits_value_after 10 0 (behind_two (numbered_name number)) ≡ number
unfolding behind_two decimal_digits
name_value number = grind (arith, nat_tests, zeros_value, digits_value)

-- different numbers have different names
pub names_differ : (number other : ℕ) → numbered_name number ≡ numbered_name other → number ≡ other
names_differ number other same = sym (name_value number) ∙ ap (λ (name : Text). digits_value_after 10 0 (behind_two name)) same ∙ name_value other

-- ---- anchors

-- a node that a walk meets again has an anchor
pub shared_named : (walk : List Step) (number : ℕ) → has number (filter_map node_met_again walk) ≡ true → (name : Text) × (anchor_of walk number ≡ Some name)
shared_named walk number met =
    let shared = shared_nodes walk in
    let place = position_or_len (λ other. other == number) shared in
    let there : nat_lt place (length shared) ≡ true = sym (has_position number shared) ∙ has_first number (filter_map node_met_again walk) ∙ met in
    (numbered_name (place + 1), ap (λ (b : Bool). option_map (λ first. numbered_name (first + 1)) (cond b (Some place) None)) there)

-- the value before the mapping
some_mapped : (f : ℕ → Text) (found : Option ℕ) (name : Text) → option_map f found ≡ Some name → (place : ℕ) × (found ≡ Some place) × (f place ≡ name)
some_mapped f None name is = cc
some_mapped f (Some place) name is = (place, refl, let same : f place ≡ name = cc in same)

-- the node of a place
at_place : (numbers : List ℕ) (number place : ℕ) → position (λ other. other == number) numbers ≡ Some place → get_or numbers place 0 ≡ number
at_place numbers number place is = eqb-true (get_or numbers place 0) number (position-Some (λ other. other == number) numbers place 0 is).1

-- nodes of the same anchor are the same node
pub anchors_differ : (walk : List Step) (number other : ℕ) (name : Text) → anchor_of walk number ≡ Some name → anchor_of walk other ≡ Some name → number ≡ other
anchors_differ walk number other name is also =
    let shared = shared_nodes walk in
    let first = some_mapped (λ place. numbered_name (place + 1)) (position (λ n. n == number) shared) name is in
    let second = some_mapped (λ place. numbered_name (place + 1)) (position (λ n. n == other) shared) name also in
    let same : first.0 + 1 ≡ second.0 + 1 = names_differ (first.0 + 1) (second.0 + 1) (first.2 ∙ sym second.2) in
    let place : first.0 ≡ second.0 = omega (arith, same) in
    sym (at_place shared number first.0 first.1) ∙ ap (λ (n : ℕ). get_or shared n 0) place ∙ at_place shared other second.0 second.1
