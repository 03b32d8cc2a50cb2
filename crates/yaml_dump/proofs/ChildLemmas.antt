-- Children by their places: pairs take two places each, and whole graphs name their nodes.
use Rattle.yaml_dump.proofs.Common.{suc, zero, ℕ, ◌%◌, ◌+◌, ◌/◌, ◌<◌, ◌^◌, ◌≤◌, IfSome, Option, None, Some, nat_le, length, slice_index_or as get_or, Bool}
use Rattle.yaml_dump.proofs.Common.{true, List, [], map, ◌∷◌, refl, ◌≡◌, ap, sym, ◌∙◌, arith, list_all, slice_get, GraphNode, Graph, children, is_whole}
use Rattle.yaml_dump.proofs.Common.{seen_number, IsNamed, nat_tests}
use Rattle.yaml_base.proofs.Common.{leb-true, numbers_held, numbers_in}
use Rattle.std.proofs.lemmas.Option.{slice_get_within, slice_get_past}
use Rattle.std.proofs.lemmas.Bool.{and_parts}
use Rattle.yaml_base.specs.{declared.nodes.yaml_node_pair_t.yaml_node_pair_t, graphs.SeenNodes.seen_pair}
use Rattle.yaml_dump.specs.WalkState.{pair_numbers}

-- the numbers that are seen in pairs
numbers_seen : List yaml_node_pair_t → List ℕ
numbers_seen pairs = pair_numbers (map seen_pair pairs)

-- two for each pair
length-numbers_seen : (pairs : List yaml_node_pair_t) → length (numbers_seen pairs) ≡ length pairs + length pairs
unfolding numbers_seen
length-numbers_seen [] = omega arith
length-numbers_seen (pair ∷ pairs) = omega (arith, length-numbers_seen pairs)

-- after the last pair
pub none_behind : (pairs : List yaml_node_pair_t) (place : ℕ) → length pairs ≤ place / 2 → slice_get (pair_numbers (map seen_pair pairs)) place ≡ None
unfolding numbers_seen
none_behind pairs place behind = slice_get_past (numbers_seen pairs) place (omega (arith, length-numbers_seen pairs))

-- the key of a pair is at twice its place
key_at : (pairs : List yaml_node_pair_t) (half : ℕ) (default : yaml_node_pair_t) → half < length pairs
    → slice_get (numbers_seen pairs) (half + half) ≡ Some (seen_number (get_or pairs half default).key)
unfolding numbers_seen
key_at [] half default within = absurd (omega arith)
key_at (pair ∷ pairs) zero default within = refl
key_at (pair ∷ pairs) (suc half) default within =
    grind (arith, nat_tests, slice_get, seen_number, numbers_seen, key_at pairs half default, suc (suc (half + half)), suc (half + half))

-- and its value next to it
value_at : (pairs : List yaml_node_pair_t) (half : ℕ) (default : yaml_node_pair_t) → half < length pairs
    → slice_get (numbers_seen pairs) (suc (half + half)) ≡ Some (seen_number (get_or pairs half default).value)
unfolding numbers_seen
value_at [] half default within = absurd (omega arith)
value_at (pair ∷ pairs) zero default within = refl
value_at (pair ∷ pairs) (suc half) default within =
    let two : suc (suc half + suc half) ≡ suc (suc (suc (half + half))) = omega arith in
    ap (slice_get (seen_number pair.key ∷ seen_number pair.value ∷ numbers_seen pairs)) two ∙ value_at pairs half default (omega arith)

-- at an even place
pub key_seen : (pairs : List yaml_node_pair_t) (place : ℕ) (pair : yaml_node_pair_t) → place / 2 < length pairs → pair ≡ get_or pairs (place / 2) pair
    → place % 2 ≡ 0
    → slice_get (pair_numbers (map seen_pair pairs)) place ≡ Some (seen_number pair.key)
unfolding numbers_seen
key_seen pairs place pair within is even = grind (arith, nat_tests, slice_get, numbers_seen, key_at, seen_number)

-- at an odd one
pub value_seen : (pairs : List yaml_node_pair_t) (place : ℕ) (pair : yaml_node_pair_t) → place / 2 < length pairs → pair ≡ get_or pairs (place / 2) pair
    → (place % 2 ≡ 0 → ⊥)
    → slice_get (pair_numbers (map seen_pair pairs)) place ≡ Some (seen_number pair.value)
unfolding numbers_seen
value_seen pairs place pair within is odd = grind (arith, nat_tests, slice_get, numbers_seen, value_at, seen_number)

-- a place that can be counted on from: a list of pairs fits in memory
pub pairs_countable : (pairs : List yaml_node_pair_t) (place : ℕ) (found : Option ℕ) → length pairs < 2 ^ 63
    → found ≡ slice_get (pair_numbers (map seen_pair pairs)) place → IfSome found (λ _. place + 1 < 2 ^ 64)
unfolding numbers_seen
pairs_countable pairs place found small is = grind (arith, nat_tests, length, numbers_seen, slice_get_within, length-numbers_seen)

-- a test of all elements holds for the one at a place
all_found : {X : Type 0} (test : X → Bool) (xs : List X) (place : ℕ) (x : X) → list_all test xs ≡ true → slice_get xs place ≡ Some x → test x ≡ true
all_found test [] place x all is = cc
all_found test (first ∷ xs) zero x all is = let same : first ≡ x = cc in ap test (sym same) ∙ (and_parts (test first) (list_all test xs) all).0
all_found test (first ∷ xs) (suc place) x all is = all_found test xs place x (and_parts (test first) (list_all test xs) all).1 is

-- a number that a node of a whole graph holds
number_named : (graph : Graph) (before place child : ℕ) (found : Option GraphNode) → is_whole graph ≡ true → slice_get graph.nodes before ≡ found
    → Some child ≡ slice_get (numbers_in found) place
    → IsNamed (length graph.nodes) child
number_named graph before place child found x known is = grind (arith, nat_tests, nat_le, length, all_found, list_all, numbers_held, and_parts, leb-true)

-- children of a whole graph's nodes are nodes of it
pub child_named : (graph : Graph) (number place : ℕ) (found : Option ℕ) → is_whole graph ≡ true → found ≡ slice_get (children graph number) place
    → IfSome found (λ child. IsNamed (length graph.nodes) child)
child_named graph number place found x is = grind (arith, nat_tests, number_named, slice_get)
