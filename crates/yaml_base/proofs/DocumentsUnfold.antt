-- The events of a document unfold its graph.
use Rattle.yaml_base.proofs.Common.{suc, ℕ, ◌+◌, ◌≤◌, if◌then◌else◌, ◌==◌, Contains, count_by, unwrap_or, Option, None, Some, length, Bool, cond}
use Rattle.yaml_base.proofs.Common.{false, true, ◌||◌, List, [], ◌++◌, ◌∷◌, refl, ◌≡◌, eqb-true, ne_eqb, append-nil, inl, inr, ap, subst, sym, ◌∙◌, arith}
use Rattle.yaml_base.proofs.Common.{or-true, or_cases, same_from_decides, Decides-eqb, nat_tests, Contains-append_left, Contains-append_right}
use Rattle.yaml_base.proofs.Common.{filter_map-append, sum_by-append, bytes_eq-Decides, filter_map, flat_map, list_any, Text, Event, document_start}
use Rattle.yaml_base.proofs.Common.{document_end, node_events, Graph, Step, enters, leaves, meets_again, is_entry_of, node_met_again, anchor_of, step_events}
use Rattle.yaml_base.proofs.Common.{document_event_list, Placed, Occurrence, alias_occurrence, node_occurrence, occurrences, has_anchor, is_occurrence_of}
use Rattle.yaml_base.proofs.Common.{NamesItsNode, NameTheirNodes, IsReached, first_reached, child_reached, TreeUnfolds, IsWholeGraph}
use Rattle.std.specs.List.{cons_option}
use Rattle.yaml_base.{proofs.SharedNodes.has, proofs.SharedNodes.shared_named, proofs.SharedNodes.anchors_differ, proofs.UnfoldEvents.node_at}
use Rattle.yaml_base.{proofs.UnfoldEvents.node_at_events, proofs.UnfoldEvents.node_at_shape, specs.graphs.Meetings.graph_steps}
use Rattle.yaml_base.{specs.graphs.Unfolding.EventsUnfold}
use Rattle.yaml_base.proofs.UnfoldSteps.{is_meeting_of, FollowEntries, IsOrderly, orderly_steps}
use Rattle.yaml_base.proofs.UnfoldTrees.{placed_steps, Fits, Walks, walk_placed, root_met, children_met, place_of, places_are}

-- ---- occurrences are counted as entries

pub count_cons : {X : Type 0} (test : X → Bool) (x : X) (xs : List X) → count_by test (x ∷ xs) ≡ cond (test x) 1 0 + count_by test xs
count_cons test x xs = sum_by-append (λ y. cond (test y) 1 0) (x ∷ []) xs ∙ omega arith

-- by a test that tells the place of one node
places_counted : (named : ℕ → Option Text) (test : Occurrence → Bool) (number : ℕ)
    → ((other : ℕ) → test (node_occurrence (named other) other) ≡ (number == other))
    → ((name : Text) (other : ℕ) → test (alias_occurrence name other) ≡ false)
    → (walk : List Step) → count_by test (filter_map (place_of named) walk) ≡ count_by (is_entry_of number) walk
places_counted named test number nodes aliases [] = refl
places_counted named test number nodes aliases (enters other ∷ walk) =
    let rest = places_counted named test number nodes aliases walk in
    let now : ◌≡◌ {A = ℕ} (cond (test (node_occurrence (named other) other)) 1 0) (cond (number == other) 1 0) = ap {B = ℕ} (λ (b : Bool). cond b 1 0)
    (nodes other) in
    count_cons test (node_occurrence (named other) other) (filter_map (place_of named) walk)
    ∙ omega (arith, rest, now)
    ∙ sym (count_cons (is_entry_of number) (enters other) walk)
places_counted named test number nodes aliases (meets_again other ∷ walk) =
    grind (arith, count_cons, places_counted named test number nodes aliases walk)
places_counted named test number nodes aliases (leaves other ∷ walk) =
    places_counted named test number nodes aliases walk ∙ sym (count_cons (is_entry_of number) (leaves other) walk ∙ omega arith)

-- ---- names

-- a node's anchor is carried by its place alone
carried_by : (walk : List Step) (number : ℕ) (name : Text) → anchor_of walk number ≡ Some name → (other : ℕ) (anchor : Option Text)
    → anchor_of walk other ≡ anchor
    → has_anchor name (node_occurrence anchor other) ≡ (number == other)
carried_by walk number name is other None none =
    sym (ne_eqb number other (λ same. let both : Some name ≡ None = sym is ∙ ap (anchor_of walk) same ∙ none in cc))
carried_by walk number name is other (Some anchor) also = grind (arith, nat_tests, same_from_decides, anchors_differ, bytes_eq-Decides, Decides-eqb)

-- a step meets this node again
abbrev is_again : ℕ → Step → Bool
is_again number (meets_again other) = other == number
is_again number (enters other) = false
is_again number (leaves other) = false

again_shared : (number : ℕ) (walk : List Step) → list_any (is_again number) walk ≡ true → has number (filter_map node_met_again walk) ≡ true
again_shared number [] is = cc
again_shared number (enters other ∷ walk) is = again_shared number walk is
again_shared number (leaves other ∷ walk) is = again_shared number walk is
again_shared number (meets_again other ∷ walk) is =
    elim (or_cases (other == number) (list_any (is_again number) walk) is) as (λ _. (other == number || has number (filter_map node_met_again walk)) ≡ true) [
      | inl now ↦ ap (λ (b : Bool). b || has number (filter_map node_met_again walk)) now
      | inr later ↦ ap (λ (b : Bool). other == number || b) (again_shared number walk later) ∙ or-true (other == number)
    ]

again_met : (number : ℕ) (walk : List Step) → list_any (is_again number) walk ≡ true → list_any (is_meeting_of number) walk ≡ true
again_met number [] is = cc
again_met number (enters other ∷ walk) is = ap (λ (b : Bool). number == other || b) (again_met number walk is) ∙ or-true (number == other)
again_met number (leaves other ∷ walk) is = again_met number walk is
again_met number (meets_again other ∷ walk) is =
    elim (or_cases (other == number) (list_any (is_again number) walk) is) as (λ _. (number == other || list_any (is_meeting_of number) walk) ≡ true) [
      | inl now ↦ ap (λ (b : Bool). b || list_any (is_meeting_of number) walk)
          (same_from_decides (number == other) true (Decides-eqb number other) (λ _. sym (eqb-true other number now), λ _. refl))
      | inr later ↦ ap (λ (b : Bool). number == other || b) (again_met number walk later) ∙ or-true (number == other)
    ]

-- the name of a node that is met again is that of one place
pub record HasName (walk : List Step) (number : ℕ) : Type 0 where
  pub name : Text
  pub is : anchor_of walk number ≡ Some name
  pub once : count_by (has_anchor name) (filter_map (place_of (anchor_of walk)) walk) ≡ 1

names_shared : (graph : Graph) (walk : List Step) → IsOrderly graph walk → (number : ℕ) → list_any (is_again number) walk ≡ true → HasName walk number
names_shared graph walk orderly number again =
    let named = shared_named walk number (again_shared number walk again) in
    record {
      name = named.0;
      is = named.1;
      once =
          places_counted (anchor_of walk) (has_anchor named.0) number (λ other. carried_by walk number named.0 named.1 other (anchor_of walk other) refl)
          (λ name other. refl) walk
          ∙ orderly.once number ∙ ap {B = ℕ} (λ (b : Bool). cond b 1 0) (orderly.met number (again_met number walk again));
    }

-- a node that was entered has its place
has_place : (named : ℕ → Option Text) (number : ℕ) (walk : List Step) → list_any (is_entry_of number) walk ≡ true
    → Contains (filter_map (place_of named) walk) (node_occurrence (named number) number)
has_place named number [] some = cc
has_place named number (enters other ∷ walk) some =
    elim (or_cases (number == other) (list_any (is_entry_of number) walk) some) as
    (λ _. Contains (node_occurrence (named other) other ∷ filter_map (place_of named) walk) (node_occurrence (named number) number)) [
      | inl now ↦
          subst (λ (n : ℕ). Contains (node_occurrence (named other) other ∷ filter_map (place_of named) walk) (node_occurrence (named n) n))
          (sym (eqb-true number other now))
          (Contains-append_left (node_occurrence (named other) other ∷ []) (filter_map (place_of named) walk) (node_occurrence (named other) other)
          (0, omega arith, refl))
      | inr later ↦ Contains-append_right (node_occurrence (named other) other ∷ []) (filter_map (place_of named) walk) (node_occurrence (named number) number)
          (has_place named number walk later)
    ]
has_place named number (leaves other ∷ walk) some = has_place named number walk some
has_place named number (meets_again other ∷ walk) some =
    Contains-append_right (alias_occurrence (unwrap_or (named other) []) other ∷ []) (filter_map (place_of named) walk) (node_occurrence (named number) number)
    (has_place named number walk some)

-- one more place
place_more : (named : ℕ → Option Text) (before : List Step) (step : Step)
    → filter_map (place_of named) (before ++ step ∷ []) ≡ filter_map (place_of named) before ++ cons_option (place_of named step) []
place_more named before step = filter_map-append (place_of named) before (step ∷ [])

alias_named : (named : ℕ → Option Text) (before : List Step) (all : List Occurrence) (number : ℕ) (name : Text) → named number ≡ Some name
    → count_by (has_anchor name) all ≡ 1
    → list_any (is_entry_of number) before ≡ true
    → NamesItsNode all (filter_map (place_of named) before) (alias_occurrence (unwrap_or (named number) []) number)
alias_named named before all number name is once entered =
    let stated : unwrap_or (named number) [] ≡ name = ap (λ (o : Option Text). unwrap_or o []) is in
    subst (λ (alias : Text). NamesItsNode all (filter_map (place_of named) before) (alias_occurrence alias number)) (sym stated) (
      once,
      subst (λ (anchor : Option Text). Contains (filter_map (place_of named) before) (node_occurrence anchor number)) is
          (has_place named number before entered),
    )

all_named : (walk before rest : List Step) → FollowEntries before rest → ((number : ℕ) → list_any (is_again number) rest ≡ true → HasName walk number)
    → NameTheirNodes (filter_map (place_of (anchor_of walk)) walk) (filter_map (place_of (anchor_of walk)) before) (filter_map (place_of (anchor_of walk)) rest)
all_named walk before [] follow names = tt
all_named walk before (enters number ∷ rest) follow names =
    let all = filter_map (place_of (anchor_of walk)) walk in (
      tt,
      subst (λ (earlier : List Occurrence). NameTheirNodes all earlier (filter_map (place_of (anchor_of walk)) rest))
          (place_more (anchor_of walk) before (enters number)) (all_named walk (before ++ enters number ∷ []) rest follow.1 names),
    )
all_named walk before (leaves number ∷ rest) follow names =
    subst (λ (earlier : List Occurrence). NameTheirNodes (filter_map (place_of (anchor_of walk)) walk) earlier (filter_map (place_of (anchor_of walk)) rest))
    (place_more (anchor_of walk) before (leaves number) ∙ append-nil (filter_map (place_of (anchor_of walk)) before))
    (all_named walk (before ++ leaves number ∷ []) rest follow.1 names)
all_named walk before (meets_again number ∷ rest) follow names =
    let all = filter_map (place_of (anchor_of walk)) walk in
    let has_name = names number (ap (λ (b : Bool). b || list_any (is_again number) rest) ((Decides-eqb number number).1 refl)) in (
      alias_named _ before all number _ has_name.is has_name.once follow.0,
      subst (λ (earlier : List Occurrence). NameTheirNodes all earlier (filter_map (place_of (anchor_of walk)) rest))
          (place_more (anchor_of walk) before (meets_again number)) (all_named walk (before ++ meets_again number ∷ []) rest follow.1
          (λ other later. names other (ap (λ (b : Bool). number == other || b) later ∙ or-true (number == other)))),
    )

-- ---- nodes that are reached are entered, and no others

reached_entered : (graph : Graph) (walk : List Step) (placed : Placed) → IsOrderly graph walk → Fits (anchor_of walk) graph placed → walk ≡ placed_steps placed
    → list_any (is_meeting_of 1) walk ≡ true
    → {number : ℕ} → IsReached graph number → list_any (is_entry_of number) walk ≡ true
reached_entered graph walk placed orderly fits is root first_reached = orderly.met 1 root
reached_entered graph walk placed orderly fits is root (child_reached {number = parent} {child = child} reached within) =
    let entered = reached_entered graph walk placed orderly fits is root reached in
    let met = children_met (anchor_of walk) graph placed parent child fits (ap (list_any (is_entry_of parent)) (sym is) ∙ entered) within in
    orderly.met child (ap (list_any (is_meeting_of child)) is ∙ met)

not_entered : (entered : Bool) → (entered ≡ true → ⊥) → entered ≡ false
not_entered entered unreached = grind (arith, nat_tests)

-- ---- the law

tree_unfolds : (graph : Graph) (walk : List Step) (made : Walks (anchor_of walk) graph [] walk 1) → IsOrderly graph walk
    → TreeUnfolds graph (node_at graph made.placed)
tree_unfolds graph walk made orderly =
    let named = anchor_of walk in
    let at : occurrences made.placed ≡ filter_map (place_of named) walk = places_are named graph made.placed made.fits
    ∙ ap (filter_map (place_of named)) (sym made.adds) in
    let root : list_any (is_meeting_of 1) walk ≡ true =
    ap (list_any (is_meeting_of 1)) made.adds
    ∙ subst (λ (n : ℕ). list_any (is_meeting_of n) (placed_steps made.placed) ≡ true) made.root (root_met made.placed) in
    let counted = λ (number : ℕ). ap (count_by (is_occurrence_of number)) at
    ∙ places_counted named (is_occurrence_of number) number (λ other. refl) (λ name other. refl) walk ∙ orderly.once number in
    record {
      placed = made.placed;
      root = made.root;
      fits = node_at_shape named graph made.placed made.fits;
      named = subst (λ (all : List Occurrence). NameTheirNodes all [] all) (sym at) (all_named walk [] walk orderly.follow (names_shared graph walk orderly));
      once = λ number reached. counted number
          ∙ ap {B = ℕ} (λ (b : Bool). cond b 1 0) (reached_entered graph walk made.placed orderly made.fits made.adds root reached);
      no_other = λ number unreached.
          counted number ∙ ap {B = ℕ} (λ (b : Bool). cond b 1 0)
          (not_entered (list_any (is_entry_of number) walk) (λ entered. unreached (orderly.reached number entered)));
    }

pub some_nodes : (count : ℕ) → (count == 0) ≡ false → 1 ≤ count
some_nodes count some = grind (arith, nat_tests, some)

-- of a whole graph that has nodes
pub document_unfolds : (graph : Graph) → IsWholeGraph graph → EventsUnfold graph (document_event_list graph)
document_unfolds graph is =
    let walk = graph_steps graph in
    let made = walk_placed (anchor_of walk) graph is.whole (some_nodes (length graph.nodes) is.has_nodes) in
    let root = node_at graph made.placed in
    let events : node_events root ≡ flat_map (step_events graph walk) walk = node_at_events graph walk made.placed made.fits
    ∙ ap (flat_map (step_events graph walk)) (sym made.adds) in
    record {
      document = record { start = graph.start; root = root; end_implicit = graph.end_implicit };
      is_document =
          ap (λ (inside : List Event). document_start graph.start ∷ (inside ++ document_end graph.end_implicit ∷ [])) events
          ∙ sym (ap (λ (none : Bool). if none then [] else
          document_start graph.start ∷ (flat_map (step_events graph walk) walk ++ document_end graph.end_implicit ∷ [])) is.has_nodes);
      start = refl;
      end_implicit = refl;
      unfolds = tree_unfolds graph walk made (orderly_steps graph (suc (length graph.nodes)) 1 first_reached);
    }
