-- A graph and the same in the order of its walk are isomorphic, styles and all, so they have the same events.
use Rattle.yaml_base.proofs.Common.{suc, zero, ℕ, ◌+◌, ◌≤◌, ◌==◌, Contains, option_map, unwrap_or, Option, None, Some, length, Bool, cond, false, not, true, []}
use Rattle.yaml_base.proofs.Common.{◌||◌, List, map, ◌++◌, ◌∷◌, refl, ◌≡◌, eq-eqb, eqb-true, inl, inr, ap, subst, sym, ◌∙◌, arith, same_from_decides, nat_tests}
use Rattle.yaml_base.proofs.Common.{Contains-append_right, flat_map, ltb-true, list_any, position_or_len, Text, Isomorphic, Graph, GraphNode, children, Step}
use Rattle.yaml_base.proofs.Common.{enters, leaves, meets_again, is_entry_of, anchor_of, Placed, alias_placed, slice_index_or as get_or, PlacedNodes, number_at}
use Rattle.yaml_base.proofs.Common.{node_placed, none_placed, placed_and, IsReached, first_reached, child_reached, IsWholeGraph, or_cases, Held}
use Rattle.yaml_base.proofs.Common.{NumberPair, numbers_held, node_numbered, label_at, opening_event_of, closing_event_of}
use Rattle.yaml_base.proofs.{Common.label_of, DocumentsUnfold.some_nodes}
use Rattle.std.specs.List.{slice_get}
use Rattle.yaml_base.specs.graphs.Meetings.{graph_steps}
use Rattle.yaml_base.proofs.SharedNodes.{has, has_position}
use Rattle.yaml_base.proofs.UnfoldSteps.{is_meeting_of, FollowEntries, IsOrderly, orderly_steps, none_added}
use Rattle.yaml_base.proofs.UnfoldTrees.{placed_steps, below_steps, HasNode, Fits, AllFit, Walks, walk_placed, root_met, children_met}
use Rattle.yaml_dump.specs.InOrder.{entered_nodes, number_in_order, renumber_children, node_by, numbered_node, in_order}

-- ---- places in an order

same_turned : (number other : ℕ) → (other == number) ≡ (number == other)
same_turned number other = grind (arith, nat_tests, same_from_decides, eqb-true, eq-eqb)

-- a node that is entered is in the order
pub entered_has : (number : ℕ) (walk : List Step) → has number (entered_nodes walk) ≡ list_any (is_entry_of number) walk
entered_has number [] = refl
entered_has number (enters other ∷ walk) = grind (arith, nat_tests, has, entered_nodes, same_turned, entered_has number walk)
entered_has number (leaves other ∷ walk) = entered_has number walk
entered_has number (meets_again other ∷ walk) = entered_has number walk

-- the element of a place
pub mapped_at : {X : Type 0} (f : ℕ → X) (number : ℕ) (xs : List ℕ) → has number xs ≡ true
    → slice_get (map f xs) (position_or_len (λ other. other == number) xs) ≡ Some (f number)
mapped_at f number [] is = cc
mapped_at f number (x ∷ xs) is =
    (elim (x == number) as (λ b. (x == number) ≡ b → (b || has number xs) ≡ true
    → slice_get (f x ∷ map f xs) (cond (not b) (1 + position_or_len (λ other. other == number) xs) 0) ≡ Some (f number)) [
      | true ↦ λ same there. ap (λ (n : ℕ). Some (f n)) (eqb-true x number same)
      | false ↦ λ differs there.
          let next : 1 + position_or_len (λ other. other == number) xs ≡ suc (position_or_len (λ other. other == number) xs) = omega arith in
          ap (slice_get (f x ∷ map f xs)) next ∙ mapped_at f number xs there
    ]) refl is

pub number_placed : (number : ℕ) (xs : List ℕ) → has number xs ≡ true → get_or xs (position_or_len (λ other. other == number) xs) 0 ≡ number
number_placed number [] is = cc
number_placed number (x ∷ xs) is =
    (elim (x == number) as (λ b. (x == number) ≡ b → (b || has number xs) ≡ true
    → get_or (x ∷ xs) (cond (not b) (1 + position_or_len (λ other. other == number) xs) 0) 0 ≡ number) [
      | true ↦ λ same there. eqb-true x number same
      | false ↦ λ differs there.
          let next : 1 + position_or_len (λ other. other == number) xs ≡ suc (position_or_len (λ other. other == number) xs) = omega arith in
          ap (λ (n : ℕ). get_or (x ∷ xs) n 0) next ∙ number_placed number xs there
    ]) refl is

pub place_within : (number : ℕ) (xs : List ℕ) → has number xs ≡ true → number_in_order xs number ≤ length xs
place_within number xs is = ltb-true (position_or_len (λ other. other == number) xs) (length xs) (sym (has_position number xs) ∙ is)

-- the number at a place, from 1 on
abbrev pub number_of_place : List ℕ → ℕ → ℕ
number_of_place order zero = 0
number_of_place order (suc place) = get_or order place 0

-- ---- a node that is reached is entered, and is there

reached_entered : (graph : Graph) (walk : List Step) (placed : Placed) → IsOrderly graph walk → Fits (anchor_of walk) graph placed → walk ≡ placed_steps placed
    → number_at placed ≡ 1 → {number : ℕ} → IsReached graph number → list_any (is_entry_of number) walk ≡ true
reached_entered graph walk placed orderly fits is root first_reached = grind (arith, nat_tests, list_any, is_meeting_of, placed_steps, root_met)
reached_entered graph walk placed orderly fits is root (child_reached {number = parent} {child = child} reached within) =
    let before = reached_entered graph walk placed orderly fits is root reached in
    let met = children_met (anchor_of walk) graph placed parent child fits (ap (list_any (is_entry_of parent)) (sym is) ∙ before) within in
    orderly.met child (ap (list_any (is_meeting_of child)) is ∙ met)

any_parts : (test : Step → Bool) (xs ys : List Step) → list_any test (xs ++ ys) ≡ true → (list_any test xs || list_any test ys) ≡ true
any_parts test [] ys is = is
any_parts test (x ∷ xs) ys is =
    (elim (test x) as (λ b. (b || list_any test (xs ++ ys)) ≡ true → ((b || list_any test xs) || list_any test ys) ≡ true) [
      | true ↦ λ _. refl
      | false ↦ λ later. any_parts test xs ys later
    ]) is

mutual
  pub entry_has_node : (named : ℕ → Option Text) (graph : Graph) (placed : Placed) (number : ℕ) → Fits named graph placed
      → list_any (is_entry_of number) (placed_steps placed) ≡ true → HasNode graph number
  entry_has_node named graph (alias_placed name other) number fits is = cc
  entry_has_node named graph (node_placed anchor other below) number fits is =
      elim (or_cases (number == other) (list_any (is_entry_of number) (below_steps below ++ leaves other ∷ [])) is) as (λ _. HasNode graph number) [
        | inl here ↦ subst (HasNode graph) (sym (eqb-true number other here)) fits.1
        | inr deeper ↦ entries_have_nodes named graph below number fits.3
            (sym (none_added (is_entry_of number) (below_steps below) (leaves other) refl) ∙ deeper)
      ]

  entries_have_nodes : (named : ℕ → Option Text) (graph : Graph) (below : PlacedNodes) (number : ℕ) → AllFit named graph below
      → list_any (is_entry_of number) (below_steps below) ≡ true → HasNode graph number
  entries_have_nodes named graph none_placed number fit is = cc
  entries_have_nodes named graph (placed_and before last) number fit is =
      elim (or_cases (list_any (is_entry_of number) (below_steps before)) (list_any (is_entry_of number) (placed_steps last))
      (any_parts (is_entry_of number) (below_steps before) (placed_steps last) is)) as (λ _. HasNode graph number) [
        | inl earlier ↦ entries_have_nodes named graph before number fit.0 earlier
        | inr now ↦ entry_has_node named graph last number fit.1 now
      ]

-- the walk over a document, and facts about it
pub record HasWalk (graph : Graph) : Type 0 where
  pub made : Walks (anchor_of (graph_steps graph)) graph [] (graph_steps graph) 1
  pub orderly : IsOrderly graph (graph_steps graph)
  pub reached : (number : ℕ) → IsReached graph number → has number (entered_nodes (graph_steps graph)) ≡ true
  pub node : (number : ℕ) → IsReached graph number → HasNode graph number

pub walk_of : (graph : Graph) → IsWholeGraph graph → HasWalk graph
walk_of graph is =
    let walk = graph_steps graph in
    let made = walk_placed (anchor_of walk) graph is.whole (some_nodes (length graph.nodes) is.has_nodes) in
    let orderly = orderly_steps graph (suc (length graph.nodes)) 1 first_reached in
    let entry = λ (number : ℕ) (reached : IsReached graph number). reached_entered graph walk made.placed orderly made.fits made.adds made.root reached in
    record {
      made = made;
      orderly = orderly;
      reached = λ number reached. entered_has number walk ∙ entry number reached;
      node = λ number reached.
          entry_has_node (anchor_of walk) graph made.placed number made.fits (ap (list_any (is_entry_of number)) (sym made.adds) ∙ entry number reached);
    }

-- ---- a node by other numbers

numbers_by_pairs : (place : ℕ → ℕ) (pairs : List NumberPair)
    → flat_map (λ (pair : NumberPair). pair.key ∷ pair.value ∷ [])
    (map (λ (pair : NumberPair). record { key = place pair.key; value = place pair.value }) pairs)
    ≡ map place (flat_map (λ (pair : NumberPair). pair.key ∷ pair.value ∷ []) pairs)
numbers_by_pairs place [] = refl
numbers_by_pairs place (pair ∷ pairs) = ap (λ (rest : List ℕ). place pair.key ∷ place pair.value ∷ rest) (numbers_by_pairs place pairs)

pub numbers_by : (place : ℕ → ℕ) (held : Held) → numbers_held (renumber_children place held) ≡ map place (numbers_held held)
numbers_by place held = grind (arith, nat_tests, numbers_by_pairs)

pub opening_by : (place : ℕ → ℕ) (anchor : Option Text) (tag : Text) (held : Held)
    → opening_event_of anchor tag (renumber_children place held) ≡ opening_event_of anchor tag held
opening_by place anchor tag held = grind (arith, nat_tests)

pub closing_by : (place : ℕ → ℕ) (held : Held) → closing_event_of (renumber_children place held) ≡ closing_event_of held
closing_by place held = grind (arith, nat_tests)

label_by : (place : ℕ → ℕ) (tag : Text) (held : Held)
    → label_of false (record { tag = tag; held = renumber_children place held }) ≡ label_of false (record { tag = tag; held = held })
label_by place tag held = grind (arith, nat_tests)

-- the node of a place in the new order
pub node_placed_at : (graph : Graph) (number : ℕ) (node : GraphNode) → has number (entered_nodes (graph_steps graph)) ≡ true
    → node_numbered graph number ≡ Some node
    → node_numbered (in_order graph) (number_in_order (entered_nodes (graph_steps graph)) number)
    ≡ Some (node_by (number_in_order (entered_nodes (graph_steps graph))) node)
node_placed_at graph number node there is = grind (arith, nat_tests, entered_nodes, graph_steps, mapped_at, node_by, number_in_order, numbered_node, unwrap_or)

-- ---- isomorphic

contained_map : (f : ℕ → ℕ) (xs : List ℕ) (y : ℕ) → Contains (map f xs) y → (x : ℕ) × Contains xs x × (f x ≡ y)
contained_map f [] y (k, within, is) = absurd (omega (arith, within))
contained_map f (x ∷ xs) y (zero, within, is) = (x, (0, omega arith, refl), is)
contained_map f (x ∷ xs) y (suc k, within, is) =
    let found = contained_map f xs y (k, omega (arith, within), is) in
    (found.0, Contains-append_right (x ∷ []) xs found.0 found.1, found.2)

pub kept_in_order : (graph : Graph) → HasWalk graph → (number : ℕ) → IsReached graph number
    → children (in_order graph) (number_in_order (entered_nodes (graph_steps graph)) number)
    ≡ map (number_in_order (entered_nodes (graph_steps graph))) (children graph number)
kept_in_order graph walked number reached =
    let order = entered_nodes (graph_steps graph) in
    let has_node = walked.node number reached in
    ap (λ (found : Option GraphNode). elim found as (λ _. List ℕ) [ None ↦ [] | Some node ↦ numbers_held node.held ])
    (node_placed_at graph number has_node.node (walked.reached number reached) has_node.is)
    ∙ numbers_by (number_in_order order) has_node.node.held
    ∙ ap (λ (found : Option GraphNode). map (number_in_order order) (elim found as (λ _. List ℕ) [ None ↦ [] | Some node ↦ numbers_held node.held ]))
    (sym has_node.is)

pub labels_in_order : (graph : Graph) → HasWalk graph → (number : ℕ) → IsReached graph number
    → label_at (in_order graph) (number_in_order (entered_nodes (graph_steps graph)) number) ≡ label_at graph number
labels_in_order graph walked number reached =
    let order = entered_nodes (graph_steps graph) in
    let has_node = walked.node number reached in
    ap (option_map (label_of false)) (node_placed_at graph number has_node.node (walked.reached number reached) has_node.is)
    ∙ ap Some (label_by (number_in_order order) has_node.node.tag has_node.node.held)
    ∙ ap (option_map (label_of false)) (sym has_node.is)

pub root_first : (graph : Graph) (placed : Placed) → number_at placed ≡ 1 → FollowEntries [] (placed_steps placed)
    → number_in_order (entered_nodes (placed_steps placed)) 1 ≡ 1
root_first graph placed is follow = grind (arith, nat_tests, cond, not, position_or_len, entered_nodes, below_steps, eq-eqb)

pub reached_back : (graph : Graph) (walked : HasWalk graph) → number_in_order (entered_nodes (graph_steps graph)) 1 ≡ 1 → {number : ℕ}
    → IsReached (in_order graph) number
    → (first : ℕ) × IsReached graph first × (number_in_order (entered_nodes (graph_steps graph)) first ≡ number)
reached_back graph walked root first_reached = (1, first_reached, root)
reached_back graph walked root (child_reached {number = parent} {child = child} reached within) =
    let before = reached_back graph walked root reached in
    let held : children (in_order graph) parent ≡ map (number_in_order (entered_nodes (graph_steps graph))) (children graph before.0) =
    ap (children (in_order graph)) (sym before.2) ∙ kept_in_order graph walked before.0 before.1 in
    let found = contained_map (number_in_order (entered_nodes (graph_steps graph))) (children graph before.0) child
    (subst (λ (numbers : List ℕ). Contains numbers child) held within) in
    (found.0, child_reached before.1 found.1, found.2)

unfoldable pub isomorphic_in_order : (graph : Graph) → HasWalk graph → Isomorphic graph (in_order graph)
isomorphic_in_order graph walked =
    let order = entered_nodes (graph_steps graph) in
    let root : number_in_order order 1 ≡ 1 =
    ap (λ (walk : List Step). number_in_order (entered_nodes walk) 1) walked.made.adds
    ∙ root_first graph walked.made.placed walked.made.root (subst (FollowEntries []) walked.made.adds walked.orderly.follow) in
    record {
      partner = number_in_order order;
      back = number_of_place order;
      root = root;
      labels = labels_in_order graph walked;
      kept = kept_in_order graph walked;
      one_to_one = λ number reached. number_placed number order (walked.reached number reached);
      onto = λ number reached.
          let before = reached_back graph walked root reached in
          ap (λ (n : ℕ). number_in_order order (number_of_place order n)) (sym before.2)
          ∙ ap (number_in_order order) (number_placed before.0 order (walked.reached before.0 before.1))
          ∙ before.2;
    }
