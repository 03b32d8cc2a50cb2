-- The node that a name means, at each point of a walk.
use Rattle.yaml_dump.proofs.Common.{nat_tests}
use Rattle.yaml_base.proofs.Common.{suc, ℕ, ◌+◌, ◌<◌, ◌≤◌, ◌==◌, count_by, option_map, unwrap_or, Option, None, Some, length, Bool, cond, false, not, true, []}
use Rattle.yaml_base.proofs.Common.{◌||◌, List, ◌++◌, ◌∷◌, refl, ◌≡◌, eq-eqb, eqb-true, append-nil, append_assoc, inl, inr, ap, subst, sym, ◌∙◌, arith, Text}
use Rattle.yaml_base.proofs.Common.{filter_map, filter_map-append, list_any, list_any-append, position, position_or_len, Graph, Step, enters, meets_again}
use Rattle.yaml_base.proofs.Common.{is_entry_of, slice_index_or as get_or, node_met_again, shared_nodes, numbered_name, anchor_of, or-true, or_cases}
use Rattle.std.proofs.{lemmas.List.Quantifiers.position-Some, Math.Bool.or-false}
use Rattle.std.proofs.Common.{get_or-set_other, get_or-set_same, length-set}
use Rattle.std.specs.Prelude.{slice_set}
use Rattle.yaml_base.specs.{Settings.largest_usize, graphs.Meetings.graph_steps}
use Rattle.yaml_base.proofs.SharedNodes.{has, shared_named}
use Rattle.yaml_base.proofs.UnfoldSteps.{FollowEntries, IsOrderly}
use Rattle.yaml_base.proofs.DocumentsUnfold.{count_cons}
use Rattle.yaml_dump.specs.InOrder.{entered_nodes, number_in_order}
use Rattle.yaml_dump.specs.Composition.{number_of_anchor, number_in_name}
use Rattle.yaml_dump.proofs.{InOrderLemmas.entered_has, NameNumbers.name_read}

-- ---- a node's place is that of its entry

counted_once : (number : ℕ) (before rest : List Step) → 1 ≤ count_by (is_entry_of number) (before ++ enters number ∷ rest)
counted_once number [] rest =
    omega (arith, count_cons (is_entry_of number) (enters number) rest, ap {B = ℕ} (λ (b : Bool). cond b 1 0) (eq-eqb number number refl))
counted_once number (step ∷ before) rest =
    omega (arith, count_cons (is_entry_of number) step (before ++ enters number ∷ rest), counted_once number before rest)

counted_twice : (number : ℕ) (before rest : List Step) → list_any (is_entry_of number) before ≡ true
    → 2 ≤ count_by (is_entry_of number) (before ++ enters number ∷ rest)
counted_twice number [] rest is = cc
counted_twice number (step ∷ before) rest is =
    let all = count_cons (is_entry_of number) step (before ++ enters number ∷ rest) in
    elim (or_cases (is_entry_of number step) (list_any (is_entry_of number) before) is) as
    (λ _. 2 ≤ count_by (is_entry_of number) (step ∷ (before ++ enters number ∷ rest))) [
      | inl now ↦ omega (arith, all, ap {B = ℕ} (λ (b : Bool). cond b 1 0) now, counted_once number before rest)
      | inr earlier ↦ omega (arith, all, counted_twice number before rest earlier)
    ]

at_most_one : (b : Bool) → cond b 1 0 ≤ 1
at_most_one b = grind (arith, nat_tests)

-- a node that is entered wasn't before
pub first_entry : (graph : Graph) (walk before rest : List Step) (number : ℕ) → IsOrderly graph walk → walk ≡ before ++ enters number ∷ rest
    → list_any (is_entry_of number) before ≡ false
first_entry graph walk before rest number orderly is =
    grind (arith, nat_tests, list_any, is_entry_of, counted_twice, count_by, at_most_one, orderly.once number)

position_behind : (number : ℕ) (xs ys : List ℕ) → has number xs ≡ false → position_or_len (λ other. other == number) (xs ++ number ∷ ys) ≡ length xs
position_behind number [] ys none = ap (λ (b : Bool). cond (not b) (1 + position_or_len (λ other. other == number) ys) 0) (eq-eqb number number refl)
position_behind number (x ∷ xs) ys none =
    (elim (x == number) as (λ b. (b || has number xs) ≡ false
    → cond (not b) (1 + position_or_len (λ other. other == number) (xs ++ number ∷ ys)) 0 ≡ suc (length xs)) [
      | true ↦ λ no. cc
      | false ↦ λ later. omega (arith, position_behind number xs ys later)
    ]) none

pub entry_place : (graph : Graph) (before rest : List Step) (number : ℕ) → IsOrderly graph (graph_steps graph)
    → graph_steps graph ≡ before ++ enters number ∷ rest
    → number_in_order (entered_nodes (graph_steps graph)) number ≡ suc (length (entered_nodes before))
entry_place graph before rest number orderly is =
    let new : has number (entered_nodes before) ≡ false = entered_has number before ∙ first_entry graph (graph_steps graph) before rest number orderly is in
    ap (λ (walk : List Step). number_in_order (entered_nodes walk) number) is
    ∙ ap (λ (order : List ℕ). number_in_order order number) (filter_map-append _ before (enters number ∷ rest))
    ∙ ap suc (position_behind number (entered_nodes before) (entered_nodes rest) new)

-- ---- a node that is met again was entered, and has a name

pub entered_before : (number : ℕ) (earlier before rest : List Step) → FollowEntries earlier (before ++ meets_again number ∷ rest)
    → list_any (is_entry_of number) (earlier ++ before) ≡ true
entered_before number earlier [] rest follow = ap (list_any (is_entry_of number)) (append-nil earlier) ∙ follow.0
entered_before number earlier (step ∷ before) rest follow =
    grind (arith, nat_tests, list_any, is_entry_of, append_assoc, entered_before number (earlier ++ step ∷ []) before rest)

again_there : (number : ℕ) (before rest : List Step) → has number (filter_map node_met_again (before ++ meets_again number ∷ rest)) ≡ true
again_there number before rest = grind (arith, nat_tests, has, filter_map-append, node_met_again, list_any-append, filter_map, eq-eqb, or-true)

-- ---- the number of a name

-- a name is that of a place among the shared nodes
pub record HasPlace (walk : List Step) (number : ℕ) (name : Text) : Type 0 where
  pub place : ℕ
  pub is : name ≡ numbered_name (place + 1)
  pub within : place < length (shared_nodes walk)
  pub number_is : get_or (shared_nodes walk) place 0 ≡ number

place_mapped : (walk : List Step) (number : ℕ) (found : Option ℕ) (name : Text) → position (λ other. other == number) (shared_nodes walk) ≡ found
    → option_map (λ place. numbered_name (place + 1)) found ≡ Some name → HasPlace walk number name
place_mapped walk number found name at is = grind (arith, nat_tests, position-Some, shared_nodes, numbered_name, eqb-true, get_or)

pub place_of_name : (walk : List Step) (number : ℕ) (name : Text) → anchor_of walk number ≡ Some name → HasPlace walk number name
place_of_name walk number name is = place_mapped walk number (position (λ other. other == number) (shared_nodes walk)) name refl is

name_number : (walk : List Step) (number : ℕ) (name : Text) → length (shared_nodes walk) ≤ largest_usize → (at : HasPlace walk number name)
    → number_in_name name ≡ at.place + 1
name_number walk number name few at = grind (arith, nat_tests, number_in_name, name_read)

-- ---- who carries a name

-- the number of the name of each node that was entered and has a name leads to that node
pub record Carries (graph : Graph) (before : List Step) (carriers : List ℕ) : Type 0 where
  pub room : length (shared_nodes (graph_steps graph)) < length carriers
  pub few : length (shared_nodes (graph_steps graph)) ≤ largest_usize
  pub each : (number : ℕ) (name : Text) → list_any (is_entry_of number) before ≡ true → anchor_of (graph_steps graph) number ≡ Some name
      → get_or carriers (number_in_name name) 0 ≡ number_in_order (entered_nodes (graph_steps graph)) number

-- none is entered at first
pub carries_none : (graph : Graph) (carriers : List ℕ) → length (shared_nodes (graph_steps graph)) < length carriers
    → length (shared_nodes (graph_steps graph)) ≤ largest_usize → Carries graph [] carriers
carries_none graph carriers room few = record { room = room; few = few; each = λ number name there is. cc }

-- if no node is entered
pub carries_on : (graph : Graph) (before : List Step) (step : Step) (carriers : List ℕ) → ((number : ℕ) → is_entry_of number step ≡ false)
    → Carries graph before carriers → Carries graph (before ++ step ∷ []) carriers
carries_on graph before step carriers none carries = grind (arith, nat_tests, list_any-append, is_entry_of, list_any, or-false)

-- the name of a node that is entered now leads to it
now_carried : (graph : Graph) (carriers : List ℕ) (number place other : ℕ) (anchor : Option Text) (name : Text)
    → length (shared_nodes (graph_steps graph)) < length carriers → length (shared_nodes (graph_steps graph)) ≤ largest_usize
    → anchor_of (graph_steps graph) number ≡ anchor → anchor ≡ Some name
    → get_or (slice_set carriers (number_of_anchor anchor) place) (number_in_name name) 0 ≡ place
now_carried graph carriers number place other None name room few is also = cc
now_carried graph carriers number place other (Some stated) name room few is also =
    let same : stated ≡ name = cc in
    let at = place_of_name (graph_steps graph) number name (is ∙ also) in
    ap (λ (text : Text). get_or (slice_set carriers (number_in_name text) place) (number_in_name name) 0) same
    ∙ get_or-set_same carriers (number_in_name name) place 0 (omega (arith, name_number (graph_steps graph) number name few at, at.within, room))

-- the names of other nodes lead to the same nodes as before
still_carried : (graph : Graph) (carriers : List ℕ) (number place other : ℕ) (anchor : Option Text) (name : Text)
    → length (shared_nodes (graph_steps graph)) ≤ largest_usize
    → anchor_of (graph_steps graph) number ≡ anchor → anchor_of (graph_steps graph) other ≡ Some name → (number ≡ other → ⊥)
    → get_or (slice_set carriers (number_of_anchor anchor) place) (number_in_name name) 0 ≡ get_or carriers (number_in_name name) 0
still_carried graph carriers number place other None name few is also differ =
    let at = place_of_name (graph_steps graph) other name also in
    get_or-set_other carriers 0 (number_in_name name) place 0 (λ same. omega (arith, same, name_number (graph_steps graph) other name few at))
still_carried graph carriers number place other (Some stated) name few is also differ =
    let at = place_of_name (graph_steps graph) number stated is in
    let too = place_of_name (graph_steps graph) other name also in
    get_or-set_other carriers (number_in_name stated) (number_in_name name) place 0
    (λ same.
    let places : at.place
    ≡ too.place = omega (arith, same, name_number (graph_steps graph) number stated few at, name_number (graph_steps graph) other name few too) in
    differ (sym at.number_is ∙ ap (λ (n : ℕ). get_or (shared_nodes (graph_steps graph)) n 0) places ∙ too.number_is))

-- if a node is entered
pub carries_entry : (graph : Graph) (before : List Step) (number : ℕ) (carriers : List ℕ) → Carries graph before carriers
    → Carries graph (before ++ enters number ∷ [])
    (slice_set carriers (number_of_anchor (anchor_of (graph_steps graph) number)) (number_in_order (entered_nodes (graph_steps graph)) number))
carries_entry graph before number carriers carries =
    let place = number_in_order (entered_nodes (graph_steps graph)) number in
    record {
      room = omega (arith, carries.room, length-set carriers (number_of_anchor (anchor_of (graph_steps graph) number)) place);
      few = carries.few;
      each = λ other name there is.
          (elim (other == number) as (λ b. (other == number) ≡ b
          → get_or (slice_set carriers (number_of_anchor (anchor_of (graph_steps graph) number)) place) (number_in_name name) 0
          ≡ number_in_order (entered_nodes (graph_steps graph)) other) [
            | true ↦ λ same.
                let one : other ≡ number = eqb-true other number same in
                now_carried graph carriers number place other (anchor_of (graph_steps graph) number) name carries.room carries.few refl
                (ap (anchor_of (graph_steps graph)) (sym one) ∙ is)
                ∙ ap (number_in_order (entered_nodes (graph_steps graph))) (sym one)
            | false ↦ λ differs.
                let earlier : list_any (is_entry_of other) before ≡ true =
                sym (list_any-append (is_entry_of other) before (enters number ∷ [])
                ∙ ap (λ (b : Bool). list_any (is_entry_of other) before || (b || false)) differs ∙ or-false (list_any (is_entry_of other) before)) ∙ there in
                still_carried graph carriers number place other (anchor_of (graph_steps graph) number) name carries.few refl is
                (λ same. let no : true ≡ false = sym (eq-eqb other number (sym same)) ∙ differs in cc)
                ∙ carries.each other name earlier is
          ]) refl;
    }

-- an alias leads to the node that it names
pub alias_carried : (graph : Graph) (before rest : List Step) (number : ℕ) (carriers : List ℕ) → IsOrderly graph (graph_steps graph)
    → graph_steps graph ≡ before ++ meets_again number ∷ rest → Carries graph before carriers
    → get_or carriers (number_in_name (unwrap_or (anchor_of (graph_steps graph) number) [])) 0 ≡ number_in_order (entered_nodes (graph_steps graph)) number
alias_carried graph before rest number carriers orderly is carries =
    let named = shared_named (graph_steps graph) number
    (ap (λ (walk : List Step). has number (filter_map node_met_again walk)) is ∙ again_there number before rest) in
    let there = entered_before number [] before rest (subst (FollowEntries []) is orderly.follow) in
    ap (λ (anchor : Option Text). get_or carriers (number_in_name (unwrap_or anchor [])) 0) named.1
    ∙ carries.each number named.0 there named.1
