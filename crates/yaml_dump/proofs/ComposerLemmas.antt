-- The view of the composer's lists.
use Rattle.yaml_dump.proofs.Common.{nat_tests}
use Rattle.yaml_base.proofs.Common.{suc, ℕ, ℤ, ◌+◌, ◌*◌, ◌<◌, ◌≤◌, length, replicate, drop, slice_index_or as get_or, List, [], map, ◌∷◌, ◌++◌, refl, ◌≡◌, ap}
use Rattle.yaml_base.proofs.Common.{sym, ◌∙◌, arith, pos, zero, map-append, append_assoc, append-nil, length-map}
use Rattle.yaml_base.specs.{declared.nodes.yaml_node_pair_t.yaml_node_pair_t, Seen.seen_event, declared.events.yaml_event_t.yaml_event_t}
use Rattle.yaml_base.specs.graphs.SeenNodes.{seen_pair, seen_number, seen_node}
use Rattle.std.specs.Prelude.{take, fold, FitsSigned, slice_set, reverse}
use Rattle.std.proofs.Common.{to_z, of_z, w32, drop-cons}
use Rattle.std.proofs.{lemmas.List.Sums.fold-append, lemmas.Int.to_z-of_z}
use Rattle.yaml_base.specs.{graphs.Meetings.NumberPair, declared.nodes.yaml_node_t.yaml_node_t}
use Rattle.yaml_dump.specs.Composition.{composed, filled, node_with, node_at_place, Composition, nothing_composed, pairs_of_list}
use Rattle.std.proofs.lemmas.List.{length-drop, map-set, take_more}
use Rattle.yaml_dump.specs.{SeenComposer.seen_unended, declared.composer.Unended.Unended}

pub carrier_set : (carriers : List ℤ) (number : ℕ) (carrier : ℤ) → FitsSigned w32 carrier
    → map seen_number (slice_set carriers number (to_z w32 (of_z w32 carrier))) ≡ slice_set (map seen_number carriers) number (seen_number carrier)
carrier_set carriers number carrier fits = grind (arith, nat_tests, map, seen_number, slice_set, to_z-of_z, w32, map-set)

zeros_seen : (count : ℕ) → map seen_number (replicate count (pos 0)) ≡ replicate count 0
zeros_seen zero = refl
zeros_seen (suc count) = ap (λ (rest : List ℕ). 0 ∷ rest) (zeros_seen count)

pub starts : {A : Type 0} (count : ℕ) (nodes : List (yaml_node_t A)) (unended : List (Unended A)) (carriers : List ℤ) → nodes ≡ [] → unended ≡ []
    → carriers ≡ replicate count (pos 0)
    → ◌≡◌ {A = Composition} (record { nodes = map seen_node nodes; unended = reverse (map seen_unended unended); carriers = map seen_number carriers })
    (nothing_composed count)
starts count nodes unended carriers none no_unended zeros = grind (arith, nat_tests, map, seen_node, reverse, seen_unended, seen_number, zeros_seen)

pub pairs_more : (numbers : List ℤ) (place : ℕ) (d : ℤ) → 2 * place + 1 < length numbers
    → pairs_of_list (map seen_number (drop (2 * place) numbers))
    ≡ record { key = seen_number (get_or numbers (2 * place) d); value = seen_number (get_or numbers (2 * place + 1) d) }
    ∷ pairs_of_list (map seen_number (drop (2 * (place + 1)) numbers))
pairs_more numbers place d within =
    let next : suc (2 * place) ≡ 2 * place + 1 = omega arith in
    let last : suc (2 * place + 1) ≡ 2 * (place + 1) = omega arith in
    ap (λ list. pairs_of_list (map seen_number list))
    (drop-cons numbers (2 * place) d (omega (arith, within))
    ∙ ap (λ (n : ℕ). get_or numbers (2 * place) d ∷ drop n numbers) next
    ∙ ap (λ list. get_or numbers (2 * place) d ∷ list) (drop-cons numbers (2 * place + 1) d within)
    ∙ ap (λ (n : ℕ). get_or numbers (2 * place) d ∷ get_or numbers (2 * place + 1) d ∷ drop n numbers) last)

pub few_paired : (numbers : List ℕ) → length numbers ≤ 1 → pairs_of_list numbers ≡ []
few_paired numbers few = grind (arith, nat_tests)

pub pairs_kept : (numbers : List ℤ) (before now : List yaml_node_pair_t) (place : ℕ) (pair : yaml_node_pair_t) → now ≡ before ++ pair ∷ []
    → pairs_of_list (map seen_number (drop (2 * place) numbers)) ≡ seen_pair pair ∷ pairs_of_list (map seen_number (drop (2 * (place + 1)) numbers))
    → map seen_pair before ++ pairs_of_list (map seen_number (drop (2 * place) numbers)) ≡ pairs_of_list (map seen_number numbers)
    → map seen_pair now ++ pairs_of_list (map seen_number (drop (2 * (place + 1)) numbers)) ≡ pairs_of_list (map seen_number numbers)
pairs_kept numbers before now place pair is next so_far = grind (arith, nat_tests, pairs_of_list, map, seen_number, drop, seen_pair, map-append, append_assoc)

pub all_paired : (numbers : List ℤ) (pairs : List yaml_node_pair_t) (place : ℕ) → length numbers ≤ 2 * place + 1
    → map seen_pair pairs ++ pairs_of_list (map seen_number (drop (2 * place) numbers)) ≡ pairs_of_list (map seen_number numbers)
    → map seen_pair pairs ≡ pairs_of_list (map seen_number numbers)
all_paired numbers pairs place end so_far =
    grind (arith, nat_tests, length, map, seen_number, drop, length-map, length-drop, append-nil, seen_pair, few_paired)

at_mapped : {A : Type 0} (nodes : List (yaml_node_t A)) (place : ℕ) (d : yaml_node_t A) → place < length nodes
    → node_at_place (map seen_node nodes) place ≡ seen_node (get_or nodes place d)
at_mapped [] place d within = absurd (omega (arith, within))
at_mapped (node ∷ nodes) zero d within = refl
at_mapped (node ∷ nodes) (suc place) d within = at_mapped nodes place d (omega (arith, within))

pub filled_so : {A : Type 0} (nodes : List (yaml_node_t A)) (place : ℕ) (node now : yaml_node_t A) (children : List ℕ) → place < length nodes
    → node ≡ get_or nodes place node → seen_node now ≡ node_with children (seen_node node)
    → map seen_node (slice_set nodes place now) ≡ filled children place (map seen_node nodes)
filled_so nodes place node now children within is with_children = grind (arith, nat_tests, map-set, seen_node, slice_set, map, node_with, at_mapped)

pub pair_seen : (key value : ℤ) → FitsSigned w32 key → FitsSigned w32 value
    → ◌≡◌ {A = NumberPair} (record { key = seen_number key; value = seen_number value })
    (seen_pair (record { key = to_z w32 (of_z w32 key); value = to_z w32 (of_z w32 value) }))
pair_seen key value key_fits value_fits = grind (arith, nat_tests, seen_number, to_z-of_z, w32, to_z, of_z)

-- after one more event of a list
pub one_more : {A : Type 0} (events : List (yaml_event_t A)) (place : ℕ) (event : yaml_event_t A) (before now start : Composition) → place < length events
    → event ≡ get_or events place event
    → before ≡ fold composed start (map seen_event (take place events)) → now ≡ composed before (seen_event event)
    → now ≡ fold composed start (map seen_event (take (place + 1) events))
one_more events place event before now start within at so_far is =
    let seen = map seen_event (take place events) in
    is
    ∙ ap (λ (standing : Composition). composed standing (seen_event event)) so_far
    ∙ sym (fold-append composed start seen (seen_event event ∷ []))
    ∙ ap (λ item. fold composed start (seen ++ seen_event item ∷ [])) at
    ∙ ap (fold composed start)
    (sym (map-append seen_event (take place events) (get_or events place event ∷ [])) ∙ ap (map seen_event) (sym (take_more events place event within)))
