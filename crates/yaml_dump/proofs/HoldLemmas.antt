-- The parts of a graph's nodes that are left while the steps of a walk become events, and the step at which a node is entered.
use Rattle.yaml_dump.proofs.Common.{suc, zero, ℕ, ◌+◌, ◌-◌, ◌<◌, ◌≤◌, ◌==◌, option_map, Option, None, Some, drop, length, slice_index_or as get_or, slice_get}
use Rattle.yaml_dump.proofs.Common.{slice_set as set, take, Bool, cond, false, true, ◌||◌, List, [], map, ◌++◌, ◌∷◌, ◌≢◌, refl, ◌≡◌, length-set, ap, subst, sym}
use Rattle.yaml_dump.proofs.Common.{get_or-set_same, ◌∙◌, arith, nat_tests, length-map, map-append, list_any, Text, GraphNode, Graph, Step, enters, is_entry_of}
use Rattle.yaml_dump.proofs.Common.{graph_steps, opening_events, get_or-map, seen_step, IsNamed}
use Rattle.yaml_base.proofs.Common.{count_by, node_numbered, opening_event_of, closing_event_of, closing_events, first_reached, Held}
use Rattle.yaml_base.proofs.UnfoldSteps.{any_added, orderly_steps}
use Rattle.yaml_base.specs.{Seen.seen_text, graphs.SeenNodes.seen_held, graphs.SeenNodes.seen_node, declared.nodes.yaml_node_t.yaml_node_t}
use Rattle.std.proofs.lemmas.{Bool.or_parts, List.take-append-drop, List.take-map, List.Sums.count_by_more_yes, List.Sums.sum_by-append, List.Sums.sum_by-cons}
use Rattle.std.proofs.lemmas.{List.take_more, Option.get_or_from_slice_get, Option.slice_get-map, Option.slice_get_read, Option.slice_get_within}
use Rattle.yaml_dump.specs.declared.steps.Step as declared
use Rattle.yaml_dump.specs.Events.{HoldsTexts, IsFirstEntry, held_without_children, without_children}

-- ---- a node is entered once

not_counted : (now : Bool) (later : ℕ) → cond now 1 0 + later ≡ 0 → now ≡ false
not_counted now later x = grind (arith, nat_tests)

-- a test that is counted nowhere fails everywhere
none_counted : (test : Step → Bool) (walk : List Step) → count_by test walk ≡ 0 → list_any test walk ≡ false
none_counted test [] none = refl
none_counted test (step ∷ rest) none =
    let parts : cond (test step) 1 0 + count_by test rest ≡ 0 = sym (sum_by-cons (λ (other : Step). cond (test other) 1 0) step rest) ∙ none in
    ap (λ (b : Bool). b || list_any test rest) (not_counted (test step) (count_by test rest) parts) ∙ none_counted test rest (omega arith)

-- one that a single step passes fails before it
once_before : (test : Step → Bool) (walk : List Step) (index : ℕ) (default : Step) → count_by test walk ≤ 1 → index < length walk
    → test (get_or walk index default) ≡ true → list_any test (take index walk) ≡ false
once_before test walk index default few inside is =
    let counted = λ (steps : List Step). count_by test steps in
    let whole : counted (take (index + 1) walk) + counted (drop (index + 1) walk) ≡ counted walk =
    sym (sum_by-append (λ (other : Step). cond (test other) 1 0) (take (index + 1) walk) (drop (index + 1) walk))
    ∙ ap counted (take-append-drop (index + 1) walk) in
    none_counted test (take index walk) (omega (arith, whole, count_by_more_yes test walk index default inside is))

at_most_one : (any : Bool) → cond any 1 0 ≤ 1
at_most_one any = grind (arith, nat_tests)

-- no step of a graph's walk enters a node again
first_entry : (graph : Graph) (walk : List Step) (index number : ℕ) (default : Step) → walk ≡ graph_steps graph → index < length walk
    → get_or walk index default ≡ enters number → list_any (is_entry_of number) (take index walk) ≡ false
first_entry graph walk index number default whole inside is =
    let orderly = orderly_steps graph (suc (length graph.nodes)) 1 first_reached in
    let few : count_by (is_entry_of number) walk ≤ 1 = subst (λ (all : List Step). count_by (is_entry_of number) all ≤ 1) (sym whole)
    (subst (λ (n : ℕ). n ≤ 1) (sym (orderly.once number)) (at_most_one (list_any (is_entry_of number) (graph_steps graph)))) in
    let itself : (number == number) ≡ true = grind (arith, nat_tests) in
    once_before (is_entry_of number) walk index default few inside (ap (is_entry_of number) is ∙ itself)

-- the next step is the first to enter its node, if it enters one
pub next_is_first : (graph : Graph) (walk : List declared.Step) (index : ℕ) (default : declared.Step) → map seen_step walk ≡ graph_steps graph
    → index < length walk
    → IsFirstEntry (map seen_step (take index walk)) (seen_step (get_or walk index default))
next_is_first graph walk index default whole inside number is =
    let within : index < length (map seen_step walk) = omega (arith, length-map walk seen_step) in
    subst (λ (steps : List Step). list_any (is_entry_of number) steps ≡ false) (take-map seen_step index walk)
    (first_entry graph (map seen_step walk) index number (seen_step default) whole within
    (get_or-map seen_step walk index default (seen_step default) inside ∙ is))

-- ---- nodes by their numbers

numbered_at : (graph : Graph) (number : ℕ) → 1 ≤ number → node_numbered graph number ≡ slice_get graph.nodes (number - 1)
numbered_at graph number first = grind (arith, nat_tests, slice_get)

next_node : (graph : Graph) (before : ℕ) → node_numbered graph (before + 1) ≡ slice_get graph.nodes before
next_node graph before = grind (arith, nat_tests, node_numbered)

-- a default past the end that is the element itself
pub reads_itself : {A : Type 0} (xs : List A) (place : ℕ) (x : A) → x ≡ get_or xs place x → get_or xs place x ≡ get_or xs place (get_or xs place x)
reads_itself xs place x is = ap (λ other. get_or xs place other) is

none_inside : {A : Type 0} (xs : List A) (place : ℕ) → place < length xs → slice_get xs place ≡ None → ⊥
none_inside [] place inside none = absurd (omega arith)
none_inside (x ∷ xs) zero inside none = cc
none_inside (x ∷ xs) (suc place) inside none = none_inside xs place (omega arith) none

-- there is a node of each number up to the last
pub some_next : (graph : Graph) (before : ℕ) → before < length graph.nodes → None ≡ node_numbered graph (before + 1) → ⊥
some_next graph before inside none = none_inside graph.nodes before inside (sym (none ∙ next_node graph before))

-- the node of a place, as an index reads it
node_at : {A : Type 0} (nodes : List (yaml_node_t A)) (place : ℕ) (node : yaml_node_t A) → place < length nodes → node ≡ get_or nodes place node
    → slice_get (map seen_node nodes) place ≡ Some (seen_node node)
node_at nodes place node inside is = grind (arith, nat_tests, slice_get-map, seen_node, option_map, slice_get_read, length)

elsewhere : {A : Type 0} (xs : List A) (written place : ℕ) (x : A) → place ≢ written → slice_get (set xs written x) place ≡ slice_get xs place
elsewhere (y ∷ ys) zero zero x differs = absurd (differs refl)
elsewhere (y ∷ ys) (suc written) (suc place) x differs = elsewhere ys written place x (λ same. differs (ap suc same))
elsewhere _ _ _ x differs = refl

-- ---- the parts that are left

-- a node that wasn't entered begins as in the graph
pub opens_as_held : {A : Type 0} (graph : Graph) (before : List Step) (nodes : List (yaml_node_t A)) (number : ℕ) (node : yaml_node_t A) (anchor : Option Text)
    → IsNamed (length nodes) number → node ≡ get_or nodes (number - 1) node → HoldsTexts graph before (map seen_node nodes)
    → list_any (is_entry_of number) before ≡ false
    → opening_event_of anchor (seen_text node.tag) (seen_held node.contents) ∷ [] ≡ opening_events anchor (node_numbered graph number)
opens_as_held graph before nodes number node anchor named is holds none =
    let place = number - 1 in
    let same : number ≡ suc place = omega (arith, named.first) in
    let inside : place < length nodes = omega (arith, named.first, named.last) in
    sym (ap (opening_events anchor) (node_at nodes place node inside is))
    ∙ holds.opens anchor place (subst (λ (n : ℕ). list_any (is_entry_of n) before ≡ false) same none)
    ∙ ap (opening_events anchor) (sym (numbered_at graph number named.first))

-- each ends so
pub ends_as_held : {A : Type 0} (graph : Graph) (before : List Step) (nodes : List (yaml_node_t A)) (number : ℕ) (node : yaml_node_t A)
    → IsNamed (length nodes) number → node ≡ get_or nodes (number - 1) node → HoldsTexts graph before (map seen_node nodes)
    → closing_event_of (seen_held node.contents) ≡ closing_events (node_numbered graph number)
ends_as_held graph before nodes number node named is holds = grind (arith, nat_tests, length, closing_events, node_at, numbered_at)

-- nodes that stay as they are still hold all parts that more steps need
pub still_held : (graph : Graph) (before : List Step) (step : Step) (nodes : List GraphNode) → HoldsTexts graph before nodes
    → HoldsTexts graph (before ++ step ∷ []) nodes
still_held graph before step nodes holds = grind (arith, nat_tests, or_parts, list_any, is_entry_of, any_added)

-- a node is of the same kind after it was entered
ends_after : {A : Type 0} (nodes : List (yaml_node_t A)) (written place : ℕ) (node after : yaml_node_t A) (same : Bool) → (place == written) ≡ same
    → written < length nodes → node ≡ get_or nodes written node → closing_event_of (seen_held after.contents) ≡ closing_event_of (seen_held node.contents)
    → closing_events (slice_get (map seen_node (set nodes written after)) place) ≡ closing_events (slice_get (map seen_node nodes) place)
ends_after nodes written place node after true same inside is kind =
    let here : place ≡ written = grind (arith, nat_tests) in
    let within : written < length (set nodes written after) = omega (arith, length-set nodes written after) in
    let now = node_at (set nodes written after) written after within (sym (get_or-set_same nodes written after after inside)) in
    subst (λ (p : ℕ). closing_events (slice_get (map seen_node (set nodes written after)) p) ≡ closing_events (slice_get (map seen_node nodes) p)) (sym here)
    (ap closing_events now ∙ kind ∙ sym (ap closing_events (node_at nodes written node inside is)))
ends_after nodes written place node after false other inside is kind =
    grind (arith, nat_tests, closing_events, slice_get-map, seen_node, set, option_map, elsewhere)

-- a node that is entered gives its texts away, and the others stay
pub held_after_entry : {A : Type 0} (graph : Graph) (before : List Step) (nodes : List (yaml_node_t A)) (number : ℕ) (node after : yaml_node_t A)
    → IsNamed (length nodes) number → node ≡ get_or nodes (number - 1) node
    → closing_event_of (seen_held after.contents) ≡ closing_event_of (seen_held node.contents) → HoldsTexts graph before (map seen_node nodes)
    → HoldsTexts graph (before ++ enters number ∷ []) (map seen_node (set nodes (number - 1) after))
held_after_entry graph before nodes number node after named is kind holds =
    let written = number - 1 in
    let inside : written < length nodes = omega (arith, named.first, named.last) in
    record {
      counted = length-map (set nodes written after) seen_node ∙ length-set nodes written after ∙ sym (length-map nodes seen_node) ∙ holds.counted;
      opens = λ anchor place none.
          let parts = or_parts (list_any (is_entry_of (suc place)) before) (suc place == number)
          (sym (any_added (is_entry_of (suc place)) before (enters number)) ∙ none) in
          let other : (suc place == number) ≡ false = parts.1 in
          let differs : place ≢ written = grind (arith, nat_tests, named.first) in
          ap (opening_events anchor)
          (slice_get-map seen_node (set nodes written after) place ∙ ap (option_map seen_node) (elsewhere nodes written place after differs)
          ∙ sym (slice_get-map seen_node nodes place))
          ∙ holds.opens anchor place parts.0;
      ends = λ place. ends_after nodes written place node after (place == written) refl inside is kind ∙ holds.ends place;
    }

-- ---- before the first step

-- nodes hold their own texts
pub holds_own : (graph : Graph) (nodes : List GraphNode) → nodes ≡ graph.nodes → HoldsTexts graph [] nodes
holds_own graph nodes same = grind (arith, nat_tests, length, opening_events, slice_get, closing_events)

opening_copied : (anchor : Option Text) (tag : Text) (held : Held)
    → opening_event_of anchor tag (held_without_children held) ∷ [] ≡ opening_event_of anchor tag held ∷ []
opening_copied anchor tag held = grind (arith, nat_tests)

closing_copied : (held : Held) → closing_event_of (held_without_children held) ≡ closing_event_of held
closing_copied held = grind (arith, nat_tests)

opens_copied : (anchor : Option Text) (node : Option GraphNode) → opening_events anchor (option_map without_children node) ≡ opening_events anchor node
opens_copied anchor found = grind (arith, nat_tests, opening_copied)

ends_copied : (node : Option GraphNode) → closing_events (option_map without_children node) ≡ closing_events node
ends_copied found = grind (arith, nat_tests, closing_copied)

-- so do copies without children
pub copies_hold : (graph : Graph) (nodes : List GraphNode) → nodes ≡ map without_children graph.nodes → HoldsTexts graph [] nodes
copies_hold graph nodes copied =
    grind (arith, nat_tests, length, length-map, without_children, opening_events, slice_get, slice_get-map, opens_copied, closing_events, ends_copied)

-- one more copy
pub copied_more : {A : Type 0} (graph : Graph) (before : ℕ) (copies grown : List (yaml_node_t A)) (copy : yaml_node_t A) (node : GraphNode)
    → Some node ≡ node_numbered graph (before + 1) → map seen_node copies ≡ map without_children (take before graph.nodes) → grown ≡ copies ++ copy ∷ []
    → seen_node copy ≡ without_children node → map seen_node grown ≡ map without_children (take (before + 1) graph.nodes)
copied_more graph before copies grown copy node some so_far grows is =
    let nodes = graph.nodes in
    let found : slice_get nodes before ≡ Some node = sym (some ∙ next_node graph before) in
    let inside : before < length nodes = slice_get_within nodes before node found in
    let all = map without_children (take before nodes) in
    ap (map seen_node) grows ∙ map-append seen_node copies (copy ∷ [])
    ∙ ap (λ (others : List GraphNode). others ++ seen_node copy ∷ []) so_far
    ∙ ap (λ (one : GraphNode). all ++ one ∷ []) (is ∙ ap without_children (sym (get_or_from_slice_get nodes before node node found)))
    ∙ sym (map-append without_children (take before nodes) (get_or nodes before node ∷ []))
    ∙ sym (ap (map without_children) (take_more nodes before node inside))
