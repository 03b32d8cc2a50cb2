-- The events of a value that isn't nested too deep are an accepted list.
use Rattle.yaml_value.proofs.Common.{max, suc, ℕ, ◌+◌, ◌≤◌, true, List, [], ◌++◌, ◌∷◌, refl, ◌≡◌, append_assoc, ap, subst, sym, ◌∙◌, arith, le-max_left, Event}
use Rattle.yaml_value.proofs.Common.{le-max_right, node_events, nodes_events, pairs_events, IsAccepted, TypedValue, null_value, bool_value, int_value, nesting}
use Rattle.yaml_value.proofs.Common.{text_value, TypedValues, list_value, TypedPairs, map_value, no_values, values_and, no_value_pairs, value_pairs_and}
use Rattle.yaml_value.proofs.Common.{values_nesting, value_pairs_nesting, most_nested, value_node, value_nodes, value_pairs, value_stream, value_events}
use Rattle.yaml_base.proofs.Common.{stream_end, document_end, sequence_end, mapping_end, most_open, open_count}
use Rattle.yaml_emitter.proofs.AcceptedLists.{sound, both_sound, Stays, few_open}

-- ---- each event is in order

mutual
  node_sound : (value : TypedValue) → sound true (node_events (value_node value)) ≡ true
  node_sound null_value = refl
  node_sound (bool_value b) = refl
  node_sound (int_value n) = refl
  node_sound (text_value text) = refl
  node_sound (list_value items) = both_sound true (nodes_events (value_nodes items)) (sequence_end ∷ []) (nodes_sound items) refl
  node_sound (map_value pairs) = both_sound true (pairs_events (value_pairs pairs)) (mapping_end ∷ []) (pairs_sound pairs) refl

  nodes_sound : (items : TypedValues) → sound true (nodes_events (value_nodes items)) ≡ true
  nodes_sound no_values = refl
  nodes_sound (values_and items item) = both_sound true (nodes_events (value_nodes items)) (node_events (value_node item)) (nodes_sound items) (node_sound item)

  pairs_sound : (pairs : TypedPairs) → sound true (pairs_events (value_pairs pairs)) ≡ true
  pairs_sound no_value_pairs = refl
  pairs_sound (value_pairs_and pairs key value) =
      both_sound true (pairs_events (value_pairs pairs)) (node_events (value_node key) ++ node_events (value_node value)) (pairs_sound pairs)
      (both_sound true (node_events (value_node key)) (node_events (value_node value)) (node_sound key) (node_sound value))

events_sound : (value : TypedValue) → sound true (value_events value) ≡ true
events_sound value =
    both_sound true (node_events (value_node value) ++ document_end true ∷ []) (stream_end ∷ [])
    (both_sound true (node_events (value_node value)) (document_end true ∷ []) (node_sound value) refl) refl

-- ---- how many collections are open

mutual
  node_stays : (value : TypedValue) (most now : ℕ) (rest : List Event) → now + nesting value ≤ most → Stays most now rest
      → Stays most now (node_events (value_node value) ++ rest)
  node_stays null_value most now rest fits later = (omega (arith, fits), later)
  node_stays (bool_value b) most now rest fits later = (omega (arith, fits), later)
  node_stays (int_value n) most now rest fits later = (omega (arith, fits), later)
  node_stays (text_value text) most now rest fits later = (omega (arith, fits), later)
  node_stays (list_value items) most now rest fits later =
      let first : now ≤ most = omega (arith, fits) in
      let inside : suc now + values_nesting items ≤ most = omega (arith, fits) in
      let second : suc now ≤ most = omega (arith, fits) in (
        first,
        subst (Stays most (suc now)) (sym (append_assoc (nodes_events (value_nodes items)) (sequence_end ∷ []) rest))
            (nodes_stay items most (suc now) (sequence_end ∷ rest) inside (second, later)),
      )
  node_stays (map_value pairs) most now rest fits later =
      let first : now ≤ most = omega (arith, fits) in
      let inside : suc now + value_pairs_nesting pairs ≤ most = omega (arith, fits) in
      let second : suc now ≤ most = omega (arith, fits) in (
        first,
        subst (Stays most (suc now)) (sym (append_assoc (pairs_events (value_pairs pairs)) (mapping_end ∷ []) rest))
            (pairs_stay pairs most (suc now) (mapping_end ∷ rest) inside (second, later)),
      )

  nodes_stay : (items : TypedValues) (most now : ℕ) (rest : List Event) → now + values_nesting items ≤ most → Stays most now rest
      → Stays most now (nodes_events (value_nodes items) ++ rest)
  nodes_stay no_values most now rest fits later = later
  nodes_stay (values_and items item) most now rest fits later =
      let left = le-max_left (values_nesting items) (nesting item) in
      let right = le-max_right (values_nesting items) (nesting item) in
      subst (Stays most now) (sym (append_assoc (nodes_events (value_nodes items)) (node_events (value_node item)) rest))
      (nodes_stay items most now (node_events (value_node item) ++ rest) (omega (arith, fits, left))
      (node_stays item most now rest (omega (arith, fits, right)) later))

  pairs_stay : (pairs : TypedPairs) (most now : ℕ) (rest : List Event) → now + value_pairs_nesting pairs ≤ most → Stays most now rest
      → Stays most now (pairs_events (value_pairs pairs) ++ rest)
  pairs_stay no_value_pairs most now rest fits later = later
  pairs_stay (value_pairs_and pairs key value) most now rest fits later =
      let both = max (nesting key) (nesting value) in
      let left = le-max_left (value_pairs_nesting pairs) both in
      let right = le-max_right (value_pairs_nesting pairs) both in
      let of_key = le-max_left (nesting key) (nesting value) in
      let of_value = le-max_right (nesting key) (nesting value) in
      subst (Stays most now)
      (sym (append_assoc (pairs_events (value_pairs pairs)) (node_events (value_node key) ++ node_events (value_node value)) rest
      ∙ ap (λ after. pairs_events (value_pairs pairs) ++ after) (append_assoc (node_events (value_node key)) (node_events (value_node value)) rest)))
      (pairs_stay pairs most now (node_events (value_node key) ++ (node_events (value_node value) ++ rest)) (omega (arith, fits, left))
      (node_stays key most now (node_events (value_node value) ++ rest) (omega (arith, fits, right, of_key))
      (node_stays value most now rest (omega (arith, fits, right, of_value)) later)))

events_stay : (value : TypedValue) → nesting value ≤ most_nested → Stays most_nested 0 (value_events value)
events_stay value fits =
    let few : 0 ≤ most_nested = omega arith in
    let fits_whole : 0 + nesting value ≤ most_nested = omega (arith, fits) in (
      few,
      (
        few,
        subst (Stays most_nested 0) (sym (append_assoc (node_events (value_node value)) (document_end true ∷ []) (stream_end ∷ [])))
            (node_stays value most_nested 0 (document_end true ∷ stream_end ∷ []) fits_whole (few, (few, few))),
      ),
    )

shallow : (value : TypedValue) → nesting value ≤ most_nested → (prefix rest : List Event) → prefix ++ rest ≡ value_events value → open_count prefix ≤ most_open
shallow value fits prefix rest is =
    let few = few_open most_nested (value_events value) prefix rest (events_stay value fits) is in omega (arith, few)

pub value_accepted : (value : TypedValue) → nesting value ≤ most_nested → IsAccepted true (value_events value)
value_accepted value fits =
    record { stream = value_stream value; is_stream = refl; sound = events_sound value; shallow = shallow value fits }
