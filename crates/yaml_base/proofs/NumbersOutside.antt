-- The numbers that name no node are sought node by node.
use Rattle.yaml_base.proofs.Common.{arith, nat_tests, suc, ℕ, ◌+◌, ◌<◌, ◌≤◌, is_some, is_none, Option, None, Some, nat_le, negsuc, pos, ℤ, drop, length}
use Rattle.yaml_base.specs.declared.{directives.yaml_tag_directive_t.yaml_tag_directive_t, directives.yaml_version_directive_t.yaml_version_directive_t}
use Rattle.yaml_base.specs.declared.{nodes.yaml_node_pair_t.yaml_node_pair_t, nodes.yaml_node_t.yaml_node_t}
use Rattle.yaml_base.proofs.Common.{flat_map, list_all, option_or, numbers_held, is_whole, numbers_of_pairs, all_numbers, first_outside}
use Rattle.yaml_base.specs.graphs.SeenNodes.{seen_number, seen_pair, seen_node, seen_document, names_node, numbers_of}
use Rattle.std.{proofs.lemmas.List.Folds.find-append, proofs.lemmas.List.drop_all, specs.List.find}
use Rattle.std.proofs.Common.{add-one, drop-cons, IsTrue}
use Rattle.yaml_base.proofs.Common.{slice_index_or as get_or, Bool, cond, false, not, true, ◌&&◌, List, [], map, ◌∷◌, refl, ◌≡◌, ap, sym, ◌∙◌, length-map}

-- a search from a place on finds the item there
pub found_at : {X : Type 0} (test : X → Bool) (items : List X) (i : ℕ) (d : X) → i < length items → test (get_or items i d) ≡ true
    → find test (drop i items) ≡ Some (get_or items i d)
found_at test items i d within passes = grind (arith, drop-cons)

-- or goes on after it
pub passed_at : {X : Type 0} (test : X → Bool) (items : List X) (i : ℕ) (d : X) → i < length items → test (get_or items i d) ≡ false
    → find test (drop i items) ≡ find test (drop (i + 1) items)
passed_at test items i d within fails = grind (arith, drop-cons, add-one)

-- or finds nothing at the end
pub none_left : {X : Type 0} (test : X → Bool) (items : List X) (i : ℕ) → length items ≤ i → find test (drop i items) ≡ None
none_left test items i end = ap (find test) (drop_all i items end)

-- the same of pairs, a key before its value
pair_at : (pairs : List yaml_node_pair_t) (i : ℕ) (d : yaml_node_pair_t) → i < length pairs
    → numbers_of_pairs (drop i pairs) ≡ (get_or pairs i d).key ∷ (get_or pairs i d).value ∷ numbers_of_pairs (drop (i + 1) pairs)
pair_at pairs i d within = grind (arith, drop-cons, add-one)

pub key_outside : (count i : ℕ) (pairs : List yaml_node_pair_t) (d : yaml_node_pair_t) → i < length pairs → names_node count (get_or pairs i d).key ≡ false
    → first_outside count (numbers_of_pairs (drop i pairs)) ≡ Some (get_or pairs i d).key
key_outside count i pairs d within outside = grind (arith, pair_at)

pub value_outside : (count i : ℕ) (pairs : List yaml_node_pair_t) (d : yaml_node_pair_t) → i < length pairs → names_node count (get_or pairs i d).key ≡ true
    → names_node count (get_or pairs i d).value ≡ false → first_outside count (numbers_of_pairs (drop i pairs)) ≡ Some (get_or pairs i d).value
value_outside count i pairs d within key outside = grind (arith, nat_tests, pair_at)

pub pair_within : (count i : ℕ) (pairs : List yaml_node_pair_t) (d : yaml_node_pair_t) → i < length pairs → names_node count (get_or pairs i d).key ≡ true
    → names_node count (get_or pairs i d).value ≡ true
    → first_outside count (numbers_of_pairs (drop i pairs)) ≡ first_outside count (numbers_of_pairs (drop (i + 1) pairs))
pair_within count i pairs d within key value = grind (arith, nat_tests, pair_at)

-- at a place of the list: the node's numbers, and then those of the nodes after it
at_place : {A : Type 0} (count i : ℕ) (nodes : List (yaml_node_t A)) (node : yaml_node_t A) → i < length nodes → node ≡ get_or nodes i node
    → first_outside count (all_numbers (drop i nodes))
    ≡ option_or (first_outside count (numbers_of node.contents)) (first_outside count (all_numbers (drop (i + 1) nodes)))
at_place {A} count i nodes node within is =
    let opened : drop i nodes ≡ node ∷ drop (suc i) nodes = drop-cons nodes i node within
    ∙ ap (λ (first : yaml_node_t A). first ∷ drop (suc i) nodes) (sym is) in
    ap (λ (rest : List (yaml_node_t A)). first_outside count (all_numbers rest)) opened
    ∙ find-append (λ number. not (names_node count number)) (numbers_of node.contents) (all_numbers (drop (suc i) nodes))
    ∙ ap (λ (n : ℕ). option_or (first_outside count (numbers_of node.contents)) (first_outside count (all_numbers (drop n nodes)))) (sym (add-one i))

-- a node that holds one gives it
pub held_outside : {A : Type 0} (count i : ℕ) (nodes : List (yaml_node_t A)) (node : yaml_node_t A) (found : Option ℤ) → i < length nodes
    → node ≡ get_or nodes i node
    → found ≡ first_outside count (numbers_of node.contents) → is_some found ≡ true → first_outside count (all_numbers (drop i nodes)) ≡ found
held_outside count i nodes node None within is gives some = cc
held_outside count i nodes node (Some number) within is gives some =
    at_place count i nodes node within is ∙ ap (λ (first : Option ℤ). option_or first (first_outside count (all_numbers (drop (i + 1) nodes)))) (sym gives)

-- after a node without one, the nodes after it are searched
pub none_held : {A : Type 0} (count i : ℕ) (nodes : List (yaml_node_t A)) (node : yaml_node_t A) (found : Option ℤ) → i < length nodes
    → node ≡ get_or nodes i node
    → found ≡ first_outside count (numbers_of node.contents) → is_some found ≡ false
    → first_outside count (all_numbers (drop i nodes)) ≡ first_outside count (all_numbers (drop (i + 1) nodes))
none_held count i nodes node (Some number) within is gives none = cc
none_held count i nodes node None within is gives none =
    at_place count i nodes node within is ∙ ap (λ (first : Option ℤ). option_or first (first_outside count (all_numbers (drop (i + 1) nodes)))) (sym gives)

-- ---- a graph without such a number is whole

within_count : ℕ → ℕ → Bool
within_count count number = nat_le 1 number && nat_le number count

all_within : (count : ℕ) (numbers : List ℤ) → first_outside count numbers ≡ None → list_all (within_count count) (map seen_number numbers) ≡ true
unfolding within_count
all_within count [] none = refl
all_within count (negsuc n ∷ rest) none = cc
all_within count (pos n ∷ rest) none = first_within (within_count count n) (first_outside count rest) (list_all (within_count count) (map seen_number rest))
    (pos n) none (all_within count rest)
  where
    first_within : (is : Bool) (found : Option ℤ) (others : Bool) (number : ℤ) → cond (not is) (Some number) found ≡ None → (found ≡ None → others ≡ true)
        → (is && others) ≡ true
    first_within true found others number none rest = rest none
    first_within false found others number none rest = cc

held_seen_pairs : (pairs : List yaml_node_pair_t)
    → flat_map (λ pair. pair.key ∷ pair.value ∷ []) (map seen_pair pairs) ≡ map seen_number (numbers_of_pairs pairs)
held_seen_pairs [] = refl
held_seen_pairs (pair ∷ pairs) = ap (λ (rest : List ℕ). seen_number pair.key ∷ seen_number pair.value ∷ rest) (held_seen_pairs pairs)

both_none : (first second : Option ℤ) → option_or first second ≡ None → (first ≡ None) × (second ≡ None)
both_none None second none = (refl, none)
both_none (Some number) second none = cc

nodes_within : {A : Type 0} (count : ℕ) (nodes : List (yaml_node_t A)) → first_outside count (all_numbers nodes) ≡ None
    → list_all (λ node. list_all (within_count count) (numbers_held node.held)) (map seen_node nodes) ≡ true
nodes_within count [] none = refl
nodes_within count (node ∷ nodes) none =
    let both = both_none _ _ (sym (find-append (λ number. not (names_node count number)) (numbers_of node.contents) (all_numbers nodes)) ∙ none) in
    grind (arith, nat_tests, both_none, find-append, within_count, held_seen_pairs, all_within, nodes_within count nodes both.1)

pub whole_graph : {A : Type 0} (version : Option yaml_version_directive_t) (directives : List (yaml_tag_directive_t A)) (nodes : List (yaml_node_t A))
    (start_implicit end_implicit : Bool)
    → first_outside (length nodes) (all_numbers nodes) ≡ None → is_whole (seen_document version directives nodes start_implicit end_implicit) ≡ true
unfolding within_count
whole_graph version directives nodes start_implicit end_implicit none =
    ap (λ (count : ℕ). list_all (λ node. list_all (within_count count) (numbers_held node.held)) (map seen_node nodes)) (length-map nodes seen_node)
    ∙ nodes_within (length nodes) nodes none

-- the fact of which the test of a document's numbers is the test
pub none_of_test : {X : Type 0} (found : Option X) → IsTrue (is_none found) → found ≡ None
none_of_test found is = grind (arith, nat_tests)
