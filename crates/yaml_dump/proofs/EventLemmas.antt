-- The events of a walk, one more step at a time.
use Rattle.yaml_dump.proofs.Common.{suc, ℕ, ◌+◌, ◌-◌, ◌<◌, flat_map, unwrap_or, Option, None, Some, nat_le, length, slice_index_or as get_or, take, Bool}
use Rattle.yaml_dump.proofs.Common.{true, ◌&&◌, List, [], map, ◌++◌, ◌∷◌, refl, ◌≡◌, append-nil, append_assoc, ap, sym, ◌∙◌, arith, nat_tests, Text}
use Rattle.yaml_dump.proofs.Common.{map-append, Event, seen_event, seen_events, Graph, Step, graph_steps, enters, meets_again, numbered_name, document_start}
use Rattle.yaml_dump.proofs.Common.{opening_events, step_events, IsNumbered, is_numbered, anchor_of_place, HasPlaces, seen_events_of, step_number, AreNamed}
use Rattle.yaml_dump.proofs.Common.{seen_step}
use Rattle.yaml_base.proofs.Common.{flat_map-append, node_numbered, alias}
use Rattle.yaml_base.specs.{declared.events.yaml_event_t.yaml_event_t, declared.events.yaml_event_t.TheVariants.YAML_DOCUMENT_END_EVENT}
use Rattle.yaml_dump.specs.{Events.walk_events, Outlines.IsOutline, declared.outlines.Outline.Outline}
use Rattle.yaml_dump.proofs.AnchorLemmas.{anchor_placed, seen_more}
use Rattle.yaml_dump.specs.declared.steps.Step as declared

-- a node begins with the anchor of its place
pub entered : (graph : Graph) (walk : List Step) (places : List ℕ) (number : ℕ) (events : List Event) → IsNumbered (length places) (enters number)
    → HasPlaces walk places
    → events ≡ opening_events (anchor_of_place (get_or places (number - 1) 0)) (node_numbered graph number) → events ≡ step_events graph walk (enters number)
entered graph walk places number events numbered has_places is =
    grind (arith, nat_tests, opening_events, node_numbered, anchor_of_place, anchor_placed, has_places.placed number numbered.first numbered.last)

named_place : (place : ℕ) → 0 < place → unwrap_or (anchor_of_place place) [] ≡ numbered_name place
named_place place some = grind (arith, nat_tests)

-- a node that is met again is an alias of the name of its place
pub met_again : (graph : Graph) (walk : List Step) (places : List ℕ) (number : ℕ) (name : Text) → IsNumbered (length places) (meets_again number)
    → HasPlaces walk places → 0 < get_or places (number - 1) 0 → name ≡ numbered_name (get_or places (number - 1) 0)
    → alias name ∷ [] ≡ step_events graph walk (meets_again number)
met_again graph walk places number name numbered has_places some is =
    grind (arith, nat_tests, named_place, get_or, unwrap_or, anchor_of_place, anchor_placed, has_places.placed number numbered.first numbered.last)

-- one more event
pub pushed : {A : Type 0} (events grown : List (yaml_event_t A)) (event : yaml_event_t A) (found : Option (yaml_event_t A)) (more : List Event)
    → grown ≡ events ++ event ∷ [] → found ≡ Some event → seen_events_of found ≡ more
    → seen_events grown ≡ seen_events events ++ more
pushed events grown event found more grows is seen = grind (arith, nat_tests, seen_events, map-append, seen_event, seen_events_of)

-- if there is none
pub nothing_pushed : {A : Type 0} (events : List (yaml_event_t A)) (found : Option (yaml_event_t A)) (more : List Event)
    → found ≡ None → seen_events_of found ≡ more → seen_events events ≡ seen_events events ++ more
nothing_pushed events found more is seen = grind (arith, nat_tests, append-nil, seen_events, seen_events_of)

-- the events of the steps so far, and those of the next
pub events_more : (of : Step → List Event) (walk : List declared.Step) (index : ℕ) (default : declared.Step) (start before after : List Event)
    → index < length walk
    → before ≡ start ++ flat_map of (map seen_step (take index walk)) → after ≡ before ++ of (seen_step (get_or walk index default))
    → after ≡ start ++ flat_map of (map seen_step (take (index + 1) walk))
events_more of walk index default start before after inside is adds =
    let so_far = map seen_step (take index walk) in
    let next = seen_step (get_or walk index default) in
    adds
    ∙ ap (λ (events : List Event). events ++ of next) is
    ∙ append_assoc start (flat_map of so_far) (of next)
    ∙ ap (λ (events : List Event). start ++ (flat_map of so_far ++ events)) (sym (append-nil (of next)))
    ∙ ap (λ (events : List Event). start ++ events) (sym (flat_map-append of so_far (next ∷ [])))
    ∙ ap (λ (steps : List Step). start ++ flat_map of steps) (sym (seen_more walk index default inside))

-- the events of a walk between those of the document
pub events_walked : {A : Type 0} (graph : Graph) (walk : List Step) (end_implicit : Bool) (begun walked ended : List (yaml_event_t A))
    → seen_events begun ≡ document_start graph.start ∷ [] → end_implicit ≡ graph.end_implicit
    → seen_events walked ≡ seen_events begun ++ flat_map (step_events graph walk) walk
    → ended ≡ walked ++ YAML_DOCUMENT_END_EVENT end_implicit ∷ [] → walk ≡ graph_steps graph → seen_events ended ≡ walk_events graph (graph_steps graph)
events_walked graph walk end_implicit begun walked ended begins ends walks last whole =
    grind (arith, nat_tests, flat_map, step_events, seen_events, map-append, seen_event, walk_events)

-- an outline's steps in a slice
pub outline_walked : {A : Type 0} (graph : Graph) (outline : Outline A) (slice : List declared.Step) → slice ≡ outline.walk.items → IsOutline graph outline
    → map seen_step slice ≡ graph_steps graph
outline_walked graph outline slice same is = ap (map seen_step) same ∙ is.walked

-- the steps of a walk whose nodes are named are numbered
pub named_numbered : (count : ℕ) (walk : List declared.Step) → AreNamed count walk → is_numbered count (map seen_step walk) ≡ true
named_numbered count [] named = refl
named_numbered count (step ∷ rest) named =
    let first = named 0 step (omega arith) in
    both_true (nat_le 1 (step_number (seen_step step)) && nat_le (step_number (seen_step step)) count) (is_numbered count (map seen_step rest))
    (both_true (nat_le 1 (step_number (seen_step step))) (nat_le (step_number (seen_step step)) count) (grind (arith, nat_tests, first.first))
    (grind (arith, nat_tests, first.last)))
    (named_numbered count rest (λ place default inside. named (suc place) default (omega (arith, inside))))
  where
    both_true : (a b : Bool) → a ≡ true → b ≡ true → a && b ≡ true
    both_true a b is_a is_b = grind (arith, nat_tests)
