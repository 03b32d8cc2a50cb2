-- The tree of a walk: an alias if a node is met again, a node with those below it if it is entered.
use Rattle.yaml_base.proofs.Common.{suc, zero, ℕ, ◌+◌, ◌<◌, ◌≤◌, ⊤, ◌==◌, Contains, unwrap_or, Option, None, Some, nat_le, length, Bool, cond, false, true}
use Rattle.yaml_base.proofs.Common.{◌&&◌, ◌||◌, List, [], ◌++◌, ◌∷◌, refl, ◌≡◌, eq-eqb, eqb-true, leb-true, append-nil, append_assoc, inl, inr, ap, subst, sym}
use Rattle.yaml_base.proofs.Common.{◌∙◌, arith, or-true, or_cases, cases_eq, filter_map-append, list_any-append, filter_map, list_all, list_any, Text}
use Rattle.yaml_base.proofs.Common.{GraphNode, Graph, node_numbered, numbers_held, numbers_in, children, is_whole, Step, enters, leaves, meets_again}
use Rattle.yaml_base.proofs.Common.{is_entry_of, steps_from, Placed, alias_placed, PlacedNodes, node_placed, none_placed, placed_and, number_at, numbers_at}
use Rattle.yaml_base.proofs.Common.{Occurrence, alias_occurrence, node_occurrence, occurrences, occurrences_below, and_parts, nat_tests}
use Rattle.std.{proofs.lemmas.List.Elements.Contains-append_cases, specs.List.fold, specs.List.slice_get}
use Rattle.yaml_base.proofs.UnfoldSteps.{from_node, none_added, is_meeting_of, still_any}

-- the steps of the walk over a tree
abbrev mutual
  pub placed_steps : Placed → List Step
  placed_steps (alias_placed name number) = meets_again number ∷ []
  placed_steps (node_placed anchor number below) = enters number ∷ (below_steps below ++ leaves number ∷ [])

  pub below_steps : PlacedNodes → List Step
  below_steps none_placed = []
  below_steps (placed_and before last) = below_steps before ++ placed_steps last

-- a graph has a node of this number
pub record HasNode (graph : Graph) (number : ℕ) : Type 0 where
  pub node : GraphNode
  pub is : node_numbered graph number ≡ Some node

-- names and anchors are those of the nodes, and a node has all its children
abbrev mutual
  pub Fits : (ℕ → Option Text) → Graph → Placed → Type 0
  Fits named graph (alias_placed name number) = name ≡ unwrap_or (named number) []
  Fits named graph (node_placed anchor number below) =
      (anchor ≡ named number) × HasNode graph number × (numbers_at below ≡ children graph number) × AllFit named graph below

  pub AllFit : (ℕ → Option Text) → Graph → PlacedNodes → Type 0
  AllFit named graph none_placed = ⊤
  AllFit named graph (placed_and before last) = AllFit named graph before × Fits named graph last

-- ---- numbers of nodes

-- one of so many nodes has this number
pub record Names (count number : ℕ) : Type 0 where
  pub first : 1 ≤ number
  pub last : number ≤ count

-- whether all numbers name a node
abbrev name_nodes : ℕ → List ℕ → Bool
name_nodes count numbers = list_all (λ number. nat_le 1 number && nat_le number count) numbers

first_names : (count number : ℕ) (numbers : List ℕ) → name_nodes count (number ∷ numbers) ≡ true → Names count number
first_names count number numbers all = grind (arith, and_parts, leb-true)

rest_names : (count number : ℕ) (numbers : List ℕ) → name_nodes count (number ∷ numbers) ≡ true → name_nodes count numbers ≡ true
rest_names count number numbers all = (and_parts (nat_le 1 number && nat_le number count) (name_nodes count numbers) all).1

-- one of the nodes, and its contents
found : (count : ℕ) (nodes : List GraphNode) (place : ℕ) → list_all (λ node. name_nodes count (numbers_held node.held)) nodes ≡ true → place < length nodes
    → (node : GraphNode) × (slice_get nodes place ≡ Some node) × (name_nodes count (numbers_held node.held) ≡ true)
found count [] place all within = absurd (omega (arith, within))
found count (node ∷ nodes) zero all within =
    (node, refl, (and_parts _ _ all).0)
found count (node ∷ nodes) (suc place) all within =
    found count nodes place (and_parts _ _ all).1 (omega (arith, within))

-- a whole graph has the node of a number, and the numbers of its children name nodes
numbered : (graph : Graph) (number : ℕ) → is_whole graph ≡ true → Names (length graph.nodes) number → HasNode graph number
    × (name_nodes (length graph.nodes) (children graph number) ≡ true)
numbered graph zero whole names = absurd (omega (arith, names.first))
numbered graph (suc place) whole names =
    let at = found (length graph.nodes) graph.nodes place whole (omega (arith, names.last)) in
    (record { node = at.0; is = at.1 }, subst (λ (o : Option GraphNode). name_nodes (length graph.nodes) (numbers_in o) ≡ true) (sym at.1) at.2)

-- ---- nodes that aren't entered yet

-- how many of the first so many numbers aren't
pub unentered : ℕ → List Step → ℕ
unentered zero walk = 0
unentered (suc count) walk = unentered count walk + cond (list_any (is_entry_of (suc count)) walk) 0 1

none_entered : (count : ℕ) → unentered count [] ≡ count
unfolding unentered
none_entered zero = refl
none_entered (suc count) = omega (arith, none_entered count)

no_more : (before after now : Bool) → now ≡ (before || after) → cond now 0 1 ≤ cond before 0 1
no_more before after now h = grind (arith, nat_tests)

-- more steps leave no more of them
unentered_grown : (count : ℕ) (walk more : List Step) → unentered count (walk ++ more) ≤ unentered count walk
unfolding unentered
unentered_grown zero walk more = omega arith
unentered_grown (suc count) walk more = grind (arith, nat_tests, no_more, list_any-append, unentered_grown count walk more)

now_entered : (walk : List Step) (number : ℕ) → list_any (is_entry_of number) walk ≡ false
    → suc (cond (list_any (is_entry_of number) (walk ++ enters number ∷ [])) 0 1) ≤ cond (list_any (is_entry_of number) walk) 0 1
now_entered walk number none = grind (arith, list_any-append, eq-eqb, or-true)

-- an entry leaves one fewer
unentered_fewer : (count : ℕ) (walk : List Step) (number : ℕ) → Names count number → list_any (is_entry_of number) walk ≡ false
    → suc (unentered count (walk ++ enters number ∷ [])) ≤ unentered count walk
unfolding unentered
unentered_fewer zero walk number names none = absurd (omega (arith, names.first, names.last))
unentered_fewer (suc count) walk number names none =
    elim (cases_eq number (suc count)) as (λ _. suc (unentered (suc count) (walk ++ enters number ∷ [])) ≤ unentered (suc count) walk) [
      | inl same ↦
          let now : suc (cond (list_any (is_entry_of (suc count)) (walk ++ enters number ∷ [])) 0 1) ≤ cond (list_any (is_entry_of (suc count)) walk) 0 1 =
          subst (λ (n : ℕ). suc (cond (list_any (is_entry_of n) (walk ++ enters number ∷ [])) 0 1) ≤ cond (list_any (is_entry_of n) walk) 0 1) same
          (now_entered walk number none) in
          omega (arith, unentered_grown count walk (enters number ∷ []), now)
      | inr apart ↦
          let one = no_more (list_any (is_entry_of (suc count)) walk) (list_any (is_entry_of (suc count)) (enters number ∷ []))
          (list_any (is_entry_of (suc count)) (walk ++ enters number ∷ [])) (list_any-append (is_entry_of (suc count)) walk (enters number ∷ [])) in
          let fewer = unentered_fewer count walk number (record { first = names.first; last = omega (arith, names.last, apart) }) none in
          omega (arith, fewer, one)
    ]

-- ---- a walk makes a tree

-- its root is the node that the walk goes from, and its steps are those that the walk adds
pub record Walks (named : ℕ → Option Text) (graph : Graph) (before after : List Step) (number : ℕ) : Type 0 where
  pub placed : Placed
  pub root : number_at placed ≡ number
  pub fits : Fits named graph placed
  pub adds : after ≡ before ++ placed_steps placed

-- trees from some nodes, after those that there are
pub record WalksAll (named : ℕ → Option Text) (graph : Graph) (before after : List Step) (earlier : PlacedNodes) (numbers : List ℕ) : Type 0 where
  pub placed : PlacedNodes
  pub roots : numbers_at placed ≡ numbers_at earlier ++ numbers
  pub fit : AllFit named graph placed
  pub adds : after ≡ before ++ below_steps placed

all_walk : (named : ℕ → Option Text) (graph : Graph) (step : List Step → ℕ → List Step) (room : ℕ)
    → ((from : List Step) (number : ℕ) → unentered (length graph.nodes) from < room → Names (length graph.nodes) number
    → Walks named graph from (step from number) number)
    → (numbers : List ℕ) (before from : List Step) (earlier : PlacedNodes) → from ≡ before ++ below_steps earlier → AllFit named graph earlier
    → name_nodes (length graph.nodes) numbers ≡ true → unentered (length graph.nodes) from < room
    → WalksAll named graph before (fold step from numbers) earlier numbers
all_walk named graph step room each [] before from earlier is fit names less =
    record { placed = earlier; roots = sym (append-nil (numbers_at earlier)); fit = fit; adds = is }
all_walk named graph step room each (number ∷ numbers) before from earlier is fit names less =
    let one = each from number less (first_names (length graph.nodes) number numbers names) in
    let now : step from number ≡ before ++ below_steps (placed_and earlier one.placed) =
    one.adds ∙ ap (λ (steps : List Step). steps ++ placed_steps one.placed) is ∙ append_assoc before (below_steps earlier) (placed_steps one.placed) in
    let grown : unentered (length graph.nodes) (step from number) ≤ unentered (length graph.nodes) from =
    subst (λ (steps : List Step). unentered (length graph.nodes) steps ≤ unentered (length graph.nodes) from) (sym one.adds)
    (unentered_grown (length graph.nodes) from (placed_steps one.placed)) in
    let other = all_walk named graph step room each numbers before (step from number) (placed_and earlier one.placed) now (fit, one.fits) (rest_names (length
    graph.nodes) number numbers names) (omega (arith, grown, less)) in
    grind (arith, first_names, append_assoc, unentered, unentered_grown, rest_names, other)

-- the entry, the steps after it and the end belong together
regrouped : (before below : List Step) (entry end : Step) → ((before ++ entry ∷ []) ++ below) ++ end ∷ [] ≡ before ++ (entry ∷ (below ++ end ∷ []))
regrouped before below entry end = append_assoc (before ++ entry ∷ []) below (end ∷ []) ∙ append_assoc before (entry ∷ []) (below ++ end ∷ [])

-- while enough nodes may be entered inside each other
pub walks : (named : ℕ → Option Text) (graph : Graph) → is_whole graph ≡ true → (depth : ℕ) (before : List Step) (number : ℕ)
    → unentered (length graph.nodes) before < depth
    → Names (length graph.nodes) number → Walks named graph before (steps_from depth graph before number) number
walks named graph whole zero before number room names = absurd (omega (arith, room))
walks named graph whole (suc depth) before number room names =
    (elim (list_any (is_entry_of number) before) as
    (λ entered. list_any (is_entry_of number) before ≡ entered → Walks named graph before (from_node depth graph before number entered) number) [
      | true ↦ λ is. record { placed = alias_placed (unwrap_or (named number) []) number; root = refl; fits = refl; adds = refl }
      | false ↦ λ is.
          let at = numbered graph number whole names in
          let fewer = unentered_fewer (length graph.nodes) before number names is in
          let below = all_walk named graph (steps_from depth graph) depth
          (λ from child less named_child. walks named graph whole depth from child less named_child) (children graph number)
          (before ++ enters number ∷ []) (before ++ enters number ∷ []) none_placed (sym (append-nil (before ++ enters number ∷ []))) tt at.1
          (omega (arith, fewer, room)) in
          record {
            placed = node_placed (named number) number below.placed;
            root = refl;
            fits = (refl, at.0, below.roots, below.fit);
            adds = ap (λ (steps : List Step). steps ++ leaves number ∷ []) below.adds
                ∙ regrouped before (below_steps below.placed) (enters number) (leaves number);
          }
    ]) refl

-- from node 1 of a graph that has nodes
pub walk_placed : (named : ℕ → Option Text) (graph : Graph) → is_whole graph ≡ true → 1 ≤ length graph.nodes
    → Walks named graph [] (steps_from (suc (length graph.nodes)) graph [] 1) 1
walk_placed named graph whole some =
    walks named graph whole (suc (length graph.nodes)) [] 1 (omega (arith, none_entered (length graph.nodes))) (record { first = omega arith; last = some })

-- ---- the children of a node that is entered are met

any_right : (test : Step → Bool) (xs ys : List Step) → list_any test ys ≡ true → list_any test (xs ++ ys) ≡ true
any_right test xs ys is = list_any-append test xs ys ∙ ap (λ (b : Bool). list_any test xs || b) is ∙ or-true (list_any test xs)

pub root_met : (placed : Placed) → list_any (is_meeting_of (number_at placed)) (placed_steps placed) ≡ true
root_met (alias_placed name number) = ap (λ (b : Bool). b || false) (eq-eqb number number refl)
root_met (node_placed anchor number below) =
    ap (λ (b : Bool). b || list_any (is_meeting_of number) (below_steps below ++ leaves number ∷ [])) (eq-eqb number number refl)

only_one : (x y : ℕ) → Contains (x ∷ []) y → x ≡ y
only_one x y (zero, within, is) = is
only_one x y (suc k, within, is) = absurd (omega (arith, within))

numbers_met : (below : PlacedNodes) (child : ℕ) → Contains (numbers_at below) child → list_any (is_meeting_of child) (below_steps below) ≡ true
numbers_met none_placed child (k, within, is) = absurd (omega (arith, within))
numbers_met (placed_and before last) child within =
    elim (Contains-append_cases (numbers_at before) (number_at last ∷ []) child within) as
    (λ _. list_any (is_meeting_of child) (below_steps before ++ placed_steps last) ≡ true) [
      | inl earlier ↦ still_any (is_meeting_of child) (below_steps before) (placed_steps last) (numbers_met before child earlier)
      | inr now ↦
          any_right _ (below_steps before) _ (subst (λ (n : ℕ). list_any (is_meeting_of n) (placed_steps last) ≡ true) (only_one _ child now) (root_met last))
    ]

-- after an entry, and before its end
within_met : (child number : ℕ) (below : List Step) → list_any (is_meeting_of child) below ≡ true
    → list_any (is_meeting_of child) (enters number ∷ (below ++ leaves number ∷ [])) ≡ true
within_met child number below is = any_right (is_meeting_of child) (enters number ∷ []) (below ++ leaves number ∷ [])
    (still_any (is_meeting_of child) below (leaves number ∷ []) is)

mutual
  pub children_met : (named : ℕ → Option Text) (graph : Graph) (placed : Placed) (number child : ℕ) → Fits named graph placed
      → list_any (is_entry_of number) (placed_steps placed) ≡ true
      → Contains (children graph number) child → list_any (is_meeting_of child) (placed_steps placed) ≡ true
  children_met named graph (alias_placed name other) number child fits entered within = cc
  children_met named graph (node_placed anchor other below) number child fits entered within =
      elim (or_cases (number == other) (list_any (is_entry_of number) (below_steps below ++ leaves other ∷ [])) entered) as
      (λ _. list_any (is_meeting_of child) (enters other ∷ (below_steps below ++ leaves other ∷ [])) ≡ true) [
        | inl here ↦
            let same : number ≡ other = eqb-true number other here in
            let held : Contains (numbers_at below) child = subst (λ (numbers : List ℕ). Contains numbers child)
            (ap (λ (n : ℕ). children graph n) same ∙ sym fits.2) within in
            within_met child other (below_steps below) (numbers_met below child held)
        | inr deeper ↦
            within_met child other (below_steps below)
            (below_met named graph below number child fits.3 (sym (none_added (is_entry_of number) (below_steps below) (leaves other) refl) ∙ deeper) within)
      ]

  below_met : (named : ℕ → Option Text) (graph : Graph) (below : PlacedNodes) (number child : ℕ) → AllFit named graph below
      → list_any (is_entry_of number) (below_steps below) ≡ true
      → Contains (children graph number) child → list_any (is_meeting_of child) (below_steps below) ≡ true
  below_met named graph none_placed number child fit entered within = cc
  below_met named graph (placed_and before last) number child fit entered within =
      elim (or_cases (list_any (is_entry_of number) (below_steps before)) (list_any (is_entry_of number) (placed_steps last))
      (sym (list_any-append (is_entry_of number) (below_steps before) (placed_steps last)) ∙ entered))
      as (λ _. list_any (is_meeting_of child) (below_steps before ++ placed_steps last) ≡ true) [
        | inl earlier ↦ still_any (is_meeting_of child) (below_steps before) (placed_steps last)
            (below_met named graph before number child fit.0 earlier within)
        | inr now ↦ any_right (is_meeting_of child) (below_steps before) (placed_steps last) (children_met named graph last number child fit.1 now within)
      ]

-- ---- the occurrences of a tree by its steps

-- the place of a step that meets a node
abbrev pub place_of : (ℕ → Option Text) → Step → Option Occurrence
place_of named (enters number) = Some (node_occurrence (named number) number)
place_of named (meets_again number) = Some (alias_occurrence (unwrap_or (named number) []) number)
place_of named (leaves number) = None

mutual
  pub places_are : (named : ℕ → Option Text) (graph : Graph) (placed : Placed) → Fits named graph placed
      → occurrences placed ≡ filter_map (place_of named) (placed_steps placed)
  places_are named graph (alias_placed name number) fits = ap (λ (stated : Text). alias_occurrence stated number ∷ []) fits
  places_are named graph (node_placed anchor number below) fits = grind (arith, append-nil, filter_map-append, places_below_are named graph below fits.3)

  places_below_are : (named : ℕ → Option Text) (graph : Graph) (below : PlacedNodes) → AllFit named graph below
      → occurrences_below below ≡ filter_map (place_of named) (below_steps below)
  places_below_are named graph none_placed fit = refl
  places_below_are named graph (placed_and before last) fit =
      ap (λ (earlier : List Occurrence). earlier ++ occurrences last) (places_below_are named graph before fit.0)
      ∙ ap (λ (now : List Occurrence). filter_map (place_of named) (below_steps before) ++ now) (places_are named graph last fit.1)
      ∙ sym (filter_map-append (place_of named) (below_steps before) (placed_steps last))
